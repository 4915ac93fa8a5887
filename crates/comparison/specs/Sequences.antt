-- The fixed sequence of numbers.
--   following  the number that comes after another: a linear congruence modulo 2^64
use Rattle.std.specs.Prelude.{ℕ, ◌+◌, ◌*◌, ◌%◌, ◌^◌}

abbrev pub following : ℕ → ℕ
following n = (n * 6364136223846793005 % 2 ^ 64 + 1442695040888963407) % 2 ^ 64
