-- What the contracts of `bench_talk` cite.
pub mod Hears
