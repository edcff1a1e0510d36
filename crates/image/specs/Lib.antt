pub mod Addresses
pub mod Contents
pub mod Rooms
pub mod Rows
pub mod Wanted
