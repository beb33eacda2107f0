pub mod DeliverSm
pub mod Offer
pub mod Settle
