-- `Search`: the places tried, and the radius at each. `Enter`: the helix listed, and the events.
pub mod Search
pub mod Enter
