-- what is to be done
pub mod Orders
-- files whose orders are taken
pub mod Handed
pub mod HandedCode
pub mod HandedView
pub mod Refusals
