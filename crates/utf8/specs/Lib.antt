-- What the functions say of bytes, of one place and of many.
pub mod Places
