mod Drawn
mod Judged
