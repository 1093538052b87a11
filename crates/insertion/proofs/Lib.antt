-- An insertion: what is answered to its course, and the node at which it begins.
mod Beginning
mod DoneOrNoRoom
mod Colliding
mod PlacingAnew
mod Extending
