pub mod SitesRead
pub mod EndsAdded
pub mod LastsFilled
