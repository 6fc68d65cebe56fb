pub mod Acts
pub mod Deliveries
pub mod Carrying
pub mod Buses
pub mod Indexes
pub mod Senders
