-- keys of members
pub mod Keys
-- what keys in brackets are looked through to
pub mod Looks
