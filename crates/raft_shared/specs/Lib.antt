pub mod Common
pub mod SharedCalls
pub mod Slot
pub mod SlotCode
pub mod SlotView
