pub mod Event
pub mod Forms
pub mod Times
pub mod Laws
