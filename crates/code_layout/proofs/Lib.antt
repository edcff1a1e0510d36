mod Spans
mod Pages
mod CodeSegments
mod Places
pub mod Laying
