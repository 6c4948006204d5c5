-- The lemmas.
mod Unfailed
