mod Exits
mod Rows
mod Loop
