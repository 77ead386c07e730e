mod Examples
mod Firsts
