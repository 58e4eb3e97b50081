-- Small numbers by their bits. Definitions only.
use Rattle.std.specs.Prelude.{from_bits, Float}
use Rattle.std.specs.Float.{binary64}

abbrev pub f1 : Float
f1 = from_bits binary64 0x3ff0_0000_0000_0000

abbrev pub f2 : Float
f2 = from_bits binary64 0x4000_0000_0000_0000

abbrev pub f3 : Float
f3 = from_bits binary64 0x4008_0000_0000_0000

abbrev pub f4 : Float
f4 = from_bits binary64 0x4010_0000_0000_0000

abbrev pub f16 : Float
f16 = from_bits binary64 0x4030_0000_0000_0000

abbrev pub f180 : Float
f180 = from_bits binary64 0x4066_8000_0000_0000

abbrev pub f1000 : Float
f1000 = from_bits binary64 0x408f_4000_0000_0000

-- 0.5
abbrev pub half : Float
half = from_bits binary64 0x3fe0_0000_0000_0000

-- 0.25
abbrev pub quarter : Float
quarter = from_bits binary64 0x3fd0_0000_0000_0000

-- 0.1
abbrev pub c01 : Float
c01 = from_bits binary64 0x3fb9_9999_9999_999a

-- 0.05
abbrev pub c05 : Float
c05 = from_bits binary64 0x3fa9_9999_9999_999a

-- 1e-9
abbrev pub nano : Float
nano = from_bits binary64 0x3e11_2e0b_e826_d695

-- 1e-12
abbrev pub tiny : Float
tiny = from_bits binary64 0x3d71_9799_812d_ea11
