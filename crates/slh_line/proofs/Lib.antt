pub mod ByteFields
