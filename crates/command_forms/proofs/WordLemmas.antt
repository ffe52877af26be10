-- Words that are taken one after another.
use Rattle.std.proofs.Common.{◌≡◌, ℕ, ◌+◌, ◌<◌, ◌==◌, not, true, false, cond, List, [], ◌∷◌, ◌++◌, length, map, take, drop, get_or, Option, Some, None, Result, Ok, Err, refl, ap, sym, ◌∙◌, append_assoc}
use Rattle.std.specs.Prelude.{codes, position, option_map}
use Rattle.std.specs.Str.{bytes_eq}
use Rattle.std.specs.List.{position_or_len, before_first, after_first}
use Rattle.std.proofs.lemmas.Bool.{lt-ltb}
use Rattle.std.proofs.lemmas.List.{drop_more, drop-drop}
use Rattle.command_forms.specs.declared.switches.Owner.{Owner}
use Rattle.command_forms.specs.declared.switches.Switch.{Switch}
use Rattle.command_forms.specs.declared.switches.Given.{Given}
use Rattle.command_forms.specs.declared.error.OrderError.{OrderError}
use Rattle.command_forms.specs.declared.error.OrderError.TheVariants.{BadValue}
use Rattle.command_forms.specs.Parting.{Parts, parted}
use Rattle.command_forms.specs.Results.{then_as}
use Rattle.command_forms.specs.Switches.{TakenSwitches, begins_dash, switch_named, takes_word, is_good, behind_switches, after_one_switch, by_switch, taken}

behind-one : (old : List Given) (g : Given) (rest : Result TakenSwitches OrderError) → then_as (behind_switches old) (after_one_switch g rest) ≡ then_as (behind_switches (old ++ g ∷ [])) rest
behind-one old g (Ok t) = ap (λ gs. Ok (record { given = gs; words = t.words })) (sym (append_assoc old (g ∷ []) t.given))
behind-one old g (Err e) = refl

map-word : {A : Type 0} (f : A → List ℕ) (xs : List A) (i : ℕ) (x : A) (w : List ℕ) → i < length xs → x ≡ get_or xs i x → w ≡ f x → map f (drop i xs) ≡ w ∷ map f (drop (i + 1) xs)
map-word f xs i x w inside here is =
    ap (map f) (drop_more xs i x inside) ∙ ap (λ y. f y ∷ map f (drop (i + 1) xs)) (sym here) ∙ ap (λ v. v ∷ map f (drop (i + 1) xs)) (sym is)

module _ {A : Type 0} (f : A → List ℕ) (xs : List A) (i : ℕ) (x : A) (w : List ℕ) (owner : Owner) (waiting : Option Switch) (switch : Switch) (old new : List Given) (all : Result TakenSwitches OrderError) where
  -- the word of a switch that waits for it
  pub switch-word : i < length xs → x ≡ get_or xs i x → w ≡ f x → waiting ≡ Some switch → is_good switch w ≡ true → new ≡ old ++ record { switch = switch; word = w } ∷ [] → then_as (behind_switches old) (taken owner waiting (map f (drop i xs))) ≡ all → then_as (behind_switches new) (taken owner None (map f (drop (i + 1) xs))) ≡ all
  switch-word inside here is waits good pushed h =
      let rest : List (List ℕ) = map f (drop (i + 1) xs) in
      ap (λ gs. then_as (behind_switches gs) (taken owner None rest)) pushed
      ∙ sym (behind-one old (record { switch = switch; word = w }) (taken owner None rest))
      ∙ ap (λ b. then_as (behind_switches old) (cond b (after_one_switch (record { switch = switch; word = w }) (taken owner None rest)) (Err BadValue))) (sym good)
      ∙ ap (λ v. then_as (behind_switches old) (taken owner v (w ∷ rest))) (sym waits)
      ∙ ap (λ ws. then_as (behind_switches old) (taken owner waiting ws)) (sym (map-word f xs i x w inside here is)) ∙ h

  -- a switch that no word goes with
  pub switch-alone : i < length xs → x ≡ get_or xs i x → w ≡ f x → waiting ≡ None → begins_dash w ≡ true → bytes_eq w (codes "--") ≡ false → switch_named owner w ≡ Some switch → takes_word switch ≡ false → new ≡ old ++ record { switch = switch; word = [] } ∷ [] → then_as (behind_switches old) (taken owner waiting (map f (drop i xs))) ≡ all → then_as (behind_switches new) (taken owner waiting (map f (drop (i + 1) xs))) ≡ all
  switch-alone inside here is waits dash goes_on found alone pushed h =
      let rest : List (List ℕ) = map f (drop (i + 1) xs) in
      let next : Option Switch → Result TakenSwitches OrderError = λ v. taken owner v rest in
      let none : Result TakenSwitches OrderError = Ok (record { given = []; words = w ∷ rest }) in
      let ended : Result TakenSwitches OrderError = Ok (record { given = []; words = rest }) in
      let here_is : taken owner None (w ∷ rest) ≡ after_one_switch (record { switch = switch; word = [] }) (next None) =
      ap (λ b. cond (not b) none (cond (bytes_eq w (codes "--")) ended (by_switch (switch_named owner w) w next))) dash
      ∙ ap (λ b. cond b ended (by_switch (switch_named owner w) w next)) goes_on
      ∙ ap (λ s. by_switch s w next) found
      ∙ ap (λ b. cond b (next (Some switch)) (after_one_switch (record { switch = switch; word = [] }) (next None))) alone in
      ap (λ gs. then_as (behind_switches gs) (next waiting)) pushed
      ∙ ap (λ v. then_as (behind_switches (old ++ record { switch = switch; word = [] } ∷ [])) (next v)) waits
      ∙ sym (behind-one old (record { switch = switch; word = [] }) (next None))
      ∙ ap (then_as (behind_switches old)) (sym here_is)
      ∙ ap (λ v. then_as (behind_switches old) (taken owner v (w ∷ rest))) (sym waits)
      ∙ ap (λ ws. then_as (behind_switches old) (taken owner waiting ws)) (sym (map-word f xs i x w inside here is)) ∙ h

module _ (mark : ℕ) (text before behind : List ℕ) where
  -- a text that is parted at a place
  pub parted-at : (n : ℕ) (from : List ℕ) → position (λ c. c == mark) text ≡ Some n → before ≡ take n text → from ≡ drop n text → behind ≡ drop 1 from → parted mark text ≡ Some (record { before = before; behind = behind })
  parted-at n from found front back further =
      let rest : behind ≡ drop (n + 1) text = further ∙ ap (drop 1) back ∙ drop-drop 1 n text in
      let split : ℕ → Parts = λ m. record { before = take m text; behind = drop (m + 1) text } in
      ap (option_map split) found
      ∙ ap (λ b. Some (record { before = b; behind = drop (n + 1) text })) (sym front)
      ∙ ap (λ b. Some (record { before = before; behind = b })) (sym rest)

  -- a text in which the mark stands
  pub parted-some : position_or_len (λ c. c == mark) text < length text → before ≡ before_first (λ c. c == mark) text → behind ≡ after_first (λ c. c == mark) text → parted mark text ≡ Some (record { before = before; behind = behind })
  parted-some inside front back =
      let n = position_or_len (λ c. c == mark) text in
      let split : ℕ → Parts = λ m. record { before = take m text; behind = drop (m + 1) text } in
      ap (λ b. option_map split (cond b (Some n) None)) (lt-ltb n (length text) inside)
      ∙ ap (λ b. Some (record { before = b; behind = drop (n + 1) text })) (sym front)
      ∙ ap (λ b. Some (record { before = before; behind = b })) (sym back)
