mod Beginning
mod Calling
