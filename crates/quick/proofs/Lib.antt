-- A row added from its top end
pub mod Downwards
