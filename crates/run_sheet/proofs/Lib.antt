-- Where the program begins, and what is known of its turns.
mod Beginning
mod Turning
