-- Numbers in a row that follow from a seed, and by them who strikes which key.
use Rattle.std.specs.Prelude.{ℕ, zero, suc, ◌+◌, ◌*◌, ◌/◌, ◌%◌, ◌^◌, List, [], ◌∷◌, get_or}
use Rattle.key_names.specs.declared.key.Base.{Base}
use Rattle.key_names.specs.declared.key.Base.TheVariants.{Char, Ret, Esc}
use Rattle.key_names.specs.declared.key.Key.{Key}
use Rattle.key_names.specs.Reading.{bare}
use Rattle.session_draws.specs.declared.draws.Strike.{Strike}

-- the state behind a draw; a seed is the first one
abbrev pub state_after : ℕ → ℕ
state_after state = (state * 6364136223846793005 + 1442695040888963407) % 2 ^ 64

-- the number that is drawn from a state: the state behind the draw, without its last 33 bits
abbrev pub drawn : ℕ → ℕ
drawn state = state_after state / 2 ^ 33

-- h l j k w b x d y p i a <esc> <ret> u o
abbrev pub drawn_bases : List Base
drawn_bases =
    Char 104 ∷ Char 108 ∷ Char 106 ∷ Char 107 ∷ Char 119 ∷ Char 98 ∷ Char 120 ∷ Char 100 ∷ Char 121 ∷ Char 112 ∷ Char 105 ∷ Char 97
    ∷ Esc ∷ Ret ∷ Char 117 ∷ Char 111 ∷ []

-- the key of a number, from 0 on
abbrev pub key_numbered : ℕ → Key
key_numbered number = bare (get_or drawn_bases number Esc)

-- a strike that is drawn from a state: which of so many clients it is of, and then its key
abbrev pub strike_from : ℕ → ℕ → Strike
strike_from clients state = record { who = drawn state % clients; key = key_numbered (drawn (state_after state) % 16) }

-- the state behind a strike, which takes two draws
abbrev pub state_behind : ℕ → ℕ
state_behind state = state_after (state_after state)

-- so many strikes of so many clients, one after another
abbrev pub strikes : ℕ → ℕ → ℕ → List Strike
strikes clients zero state = []
strikes clients (suc more) state = strike_from clients state ∷ strikes clients more (state_behind state)
