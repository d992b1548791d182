-- What the functions inside the crate promise each other. A caller has to believe none of it.
use Rattle.std.specs.Prelude.{◌≡◌, ◌⊎◌, ℕ}

-- how many values a channel has: it has five bits or six
abbrev pub ChannelValues : ℕ → Type 0
ChannelValues n = (n ≡ 32) ⊎ (n ≡ 64)
