mod MemoryFronts
