-- How far a write in several steps has come.
use Rattle.std.proofs.Common.{◌≡◌, ℕ, List, [], ◌++◌, take, drop, refl, sym, ap, ◌∙◌, append_assoc, subst, None, Some}
use Rattle.std.proofs.lemmas.List.{append-nil, take-append-drop}
use Rattle.std.specs.declared.option.Option.{Option}
use Rattle.std.specs.Io.KnownBytes.{Appends, Keeps}
use Rattle.std.proofs.KnownBytes.{Appends-trans, Appends-nil}
use Rattle.kak_ports.specs.Ports.{AppendsFront}

-- a front of the bytes was added, and the rest is still to come
pub record Written (old now : Option (List ℕ)) (bytes rest : List ℕ) : Type 0 where
  pub front : List ℕ
  pub split : bytes ≡ front ++ rest
  pub added : Appends old now front

pub written-start : (old : Option (List ℕ)) (bytes : List ℕ) → Written old old bytes bytes
written-start old bytes = record { front = []; split = refl; added = Appends-nil old }

pub written-step : {old now : Option (List ℕ)} {bytes rest : List ℕ} (new : Option (List ℕ)) (n : ℕ) → Written old now bytes rest → Appends now new (take n rest) → Written old new bytes (drop n rest)
written-step {old = old} {now = now} {rest = rest} new n w a = record {
  front = w.front ++ take n rest;
  split = w.split ∙ ap (λ r. w.front ++ r) (sym (take-append-drop n rest)) ∙ sym (append_assoc w.front (take n rest) (drop n rest));
  added = Appends-trans old now new w.front (take n rest) w.added a;
}

kept-appends : (old now new : Option (List ℕ)) (front : List ℕ) → Appends old now front → Keeps now new → Appends old new front
kept-appends None now new front a k = tt
kept-appends (Some x) None new front a k = absurd a
kept-appends (Some x) (Some y) None front a k = absurd k
kept-appends (Some x) (Some y) (Some z) front a k = k ∙ a

pub written-kept : {old now : Option (List ℕ)} {bytes rest : List ℕ} (new : Option (List ℕ)) → Written old now bytes rest → Keeps now new → Written old new bytes rest
written-kept {old = old} {now = now} new w k = record { front = w.front; split = w.split; added = kept-appends old now new w.front w.added k }

pub written-front : {old now : Option (List ℕ)} {bytes rest : List ℕ} → Written old now bytes rest → AppendsFront old now bytes
written-front {rest = rest} w = (w.front, rest, w.split, w.added)

pub written-all : {old now : Option (List ℕ)} {bytes rest : List ℕ} → rest ≡ [] → Written old now bytes rest → Appends old now bytes
written-all {old = old} {now = now} {rest = rest} e w = let P : List ℕ → Type 0 = λ r. Appends old now r in subst P (sym (w.split ∙ ap (λ r. w.front ++ r) e ∙ append-nil w.front)) w.added

-- a front of so many bytes was added
pub front-taken : (n : ℕ) (xs ys bytes : List ℕ) → ys ≡ xs ++ take n bytes → AppendsFront (Some xs) (Some ys) bytes
front-taken n xs ys bytes e = (take n bytes, drop n bytes, sym (take-append-drop n bytes), e)
