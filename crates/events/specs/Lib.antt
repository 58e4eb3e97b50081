-- `Chunk`: the rows of a chunk list, and a job as the replay is told it. `Replay`: what a list clears, and the rule of each row. `Helix`: the radius of an
-- entry. `Events`: what the planner does, event by event. `Told`: demand 3. `Followed`: a way and its cut. `Lent`: rows and triples in the lent slices. `Read`:
-- one row read.
pub mod Chunk
pub mod Replay
pub mod Helix
pub mod Events
pub mod Told
pub mod Followed
pub mod Lent
pub mod Read
