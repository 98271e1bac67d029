pub mod Hmac
pub mod Chain
