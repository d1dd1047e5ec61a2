pub mod ByteNumbers
pub mod ElementStarts
pub mod ElementTypes
pub mod FieldValues
pub mod SlotBits
pub mod NumberBits
