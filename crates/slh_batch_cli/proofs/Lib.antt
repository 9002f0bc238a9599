mod Pushed
mod Written
