pub mod Delays
mod Memory
mod Numbers
mod Words
