mod FrameParts
