-- Document 01's table "Marked for proof".
pub mod Table
