mod Saying
mod Parting
mod Answering
mod Commenting
mod Looking
