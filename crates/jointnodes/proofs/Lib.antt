mod Fields
mod Nodes
