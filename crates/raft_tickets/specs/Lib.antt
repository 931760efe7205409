pub mod Draws
pub mod Drawing
pub mod TicketModel
pub mod TicketSeatModel
pub mod Weights
pub mod Common
