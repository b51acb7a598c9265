-- The graph of steps that a keeper's calls grow beside the order (Ways), and its edges one by one (Edges).
pub mod Ways
pub mod Edges
