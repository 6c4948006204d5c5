-- When a sender that keeps to a rate may send. Times are nanoseconds.
use Rattle.std.specs.Prelude.{ℕ, ◌-◌, ◌*◌, ◌/◌, max}

-- from when a datagram's time counts: from the end of those before it, and no more than 10 ms ago
abbrev pub counted_from : ℕ → ℕ → ℕ
counted_from free now = max free (now - 10000000)

-- how long a datagram takes at so many bytes a second, where it counts as 512 bytes at least
abbrev pub time_of : ℕ → ℕ → ℕ
time_of rate bytes = max bytes 512 * 1000000000 / rate
