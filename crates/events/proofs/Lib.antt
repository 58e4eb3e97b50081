-- `TrialLaws`: a pass with its log clears what the replay clears. `ReplayLaws`: one more row. `HelixLaws`: the radius of an entry. `Demand`: the theorem over every
-- list of events. `GrowLaws`: such a list grows at its end. `CountLaws`: rows and events of a kind. `Finish`: the claim of a finished plan. `FollowLaws`: a way and
-- its cut. `Example`: a plan computed. `WayLaws`: several links at once. `LentLaws`: the lent slices hold a list. `ReadLaws`: read row by row. `PassLaws`: a pass
-- point by point, and from its triples. `ShiftLaws`: triples moved up in place.
pub mod TrialLaws
pub mod ReplayLaws
pub mod HelixLaws
pub mod Demand
pub mod GrowLaws
pub mod CountLaws
pub mod Finish
pub mod FollowLaws
pub mod Example
pub mod WayLaws
pub mod LentLaws
pub mod ReadLaws
pub mod PassLaws
pub mod ShiftLaws
