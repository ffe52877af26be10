-- Worked examples of what is due and what is sent. An event adds a number to a sum, shows it, or asks to leave.
use Rattle.std.specs.Prelude.{◌≡◌, ℕ, ◌+◌, false, if◌then◌else◌, ◌==◌, nat_lt, List, [], ◌∷◌}
use Rattle.session_turns.specs.Lines.{whole_lines, last_part, lines_of_input}
use Rattle.session_turns.specs.Histories.{Answer, Rules, own}
use Rattle.session_turns.specs.Turns.{Turn, Line, Idle, Protocol}
use Rattle.session_turns.specs.Headline.{Due, Sent}

-- What a client of the examples does.
pub data Act : Type 0 where
  Opening : Act
  Add : (n : ℕ) → Act
  Show : Act
  Unasked : Act
  Ask : Act
  Leaving : Act

-- an entry of the examples: whose it is, and its act
pub record Said : Type 0 where
  pub who : ℕ
  pub what : Act

-- what an act adds
abbrev pub amount_added : Act → ℕ
amount_added (Add n) = n
amount_added _ = 0

-- the sum that some entries lead to
abbrev pub sum_said : List Said → ℕ
sum_said [] = 0
sum_said (said ∷ before) = amount_added said.what + sum_said before

-- Show and Unasked send the sum; leaving is granted where the sum is above 9
abbrev pub answer_to : Act → ℕ → List (Answer Act)
answer_to Leaving sum = []
answer_to Show sum = record { event = Show; bytes = sum ∷ []; leaving = false } ∷ []
answer_to Unasked sum = record { event = Unasked; bytes = sum ∷ []; leaving = false } ∷ []
answer_to Ask sum = record { event = Ask; bytes = []; leaving = nat_lt 9 sum } ∷ []
answer_to act sum = record { event = act; bytes = []; leaving = false } ∷ []

abbrev pub sums : Rules Said Act
sums = record { maker = λ said. said.who; event = λ said. said.what; answer = λ before said. answer_to said.what (sum_said before) }

-- each byte of a line adds its number and 33 asks to leave; a line that begins with 63 is refused
abbrev pub act_of : ℕ → Act
act_of b = if b == 33 then Ask else Add b

abbrev pub acts_of : List ℕ → List Act
acts_of [] = Show ∷ []
acts_of (b ∷ bs) = act_of b ∷ acts_of bs

abbrev pub asked : List ℕ → List Act
asked [] = []
asked (b ∷ bs) = if b == 63 then [] else acts_of (b ∷ bs)

abbrev pub refusal : List ℕ → List ℕ
refusal [] = []
refusal (b ∷ bs) = if b == 63 then 63 ∷ [] else []

abbrev pub talk : Protocol Act
talk = record { opening = Opening ∷ Show ∷ []; asks = asked; refuses = refusal; idles = Unasked; leaves = Leaving }

abbrev pub said : ℕ → Act → Said
said who what = record { who = who; what = what }

-- one client: the line 1 2, a refused line, an empty one, and the end
abbrev pub one_client_said : List Said
one_client_said = said 0 Opening ∷ said 0 Show ∷ said 0 (Add 1) ∷ said 0 (Add 2) ∷ said 0 Show ∷ said 0 Leaving ∷ []

-- two clients: the second is drawn unasked, and may leave only since the first one added 8
abbrev pub two_clients_said : List Said
two_clients_said = said 0 Opening ∷ said 0 Show ∷ said 1 Opening ∷ said 1 Show ∷ said 0 (Add 8) ∷ said 0 Show ∷ said 1 Unasked
    ∷ said 1 (Add 2) ∷ said 1 Ask ∷ said 1 Show ∷ said 1 Leaving ∷ []

-- one client, cut off in the middle of the line 1 2
abbrev pub cut_off : List Said
cut_off = said 0 Opening ∷ said 0 Show ∷ said 0 (Add 1) ∷ said 0 Leaving ∷ []

abbrev pub lines_alone : List Turn
lines_alone = Line (1 ∷ 2 ∷ []) ∷ Line (63 ∷ 5 ∷ []) ∷ Line [] ∷ []

abbrev pub turns_of_second : List Turn
turns_of_second = Idle ∷ Line (2 ∷ 33 ∷ []) ∷ Line (4 ∷ []) ∷ []

pub record Examples : Type 0 where
  -- lines are ended by newlines, and a last part that isn't empty is one too
  pub three_lines : lines_of_input (1 ∷ 10 ∷ 10 ∷ 2 ∷ 3 ∷ []) ≡ (1 ∷ []) ∷ [] ∷ (2 ∷ 3 ∷ []) ∷ []
  pub ended_line : lines_of_input (1 ∷ 10 ∷ []) ≡ (1 ∷ []) ∷ []
  pub no_line : lines_of_input [] ≡ []
  pub part_before : whole_lines (7 ∷ []) (1 ∷ 10 ∷ 2 ∷ []) ≡ (7 ∷ 1 ∷ []) ∷ []
  pub part_behind : last_part (7 ∷ []) (1 ∷ 10 ∷ 2 ∷ []) ≡ 2 ∷ []
  -- a refused line and an empty one have no event; the refusal is sent in its place
  pub alone_due : Due talk sums 0 one_client_said lines_alone ≡ own sums 0 one_client_said
  pub alone_sent : Sent talk sums 0 one_client_said lines_alone ≡ 0 ∷ 3 ∷ 63 ∷ []
  -- the turns up to the one in which leaving is granted, and none behind it
  pub second_due : Due talk sums 1 two_clients_said turns_of_second ≡ own sums 1 two_clients_said
  pub second_sent : Sent talk sums 1 two_clients_said turns_of_second ≡ 0 ∷ 8 ∷ 10 ∷ []
  pub first_sent : Sent talk sums 0 two_clients_said (Line (8 ∷ []) ∷ []) ≡ 0 ∷ 8 ∷ []
  -- of a line that was cut off nothing is sent, and nothing of the lines behind it
  pub cut_sent : Sent talk sums 0 cut_off lines_alone ≡ 0 ∷ []
  pub cut_due : Due talk sums 0 cut_off (Line (1 ∷ 2 ∷ []) ∷ []) ≡ Opening ∷ Show ∷ Add 1 ∷ Add 2 ∷ Show ∷ Leaving ∷ []
