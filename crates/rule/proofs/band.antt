pub mod Arcs
pub mod Law
pub mod Laying
pub mod Runs
pub mod Sides
pub mod Turn
