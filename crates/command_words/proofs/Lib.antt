mod Numbers
mod Refusals
mod Readings
