-- What was found in texts that come one after another.
use Rattle.std.proofs.Common.{◌≡◌, ℕ, Bool, true, false, List, [], ◌∷◌, ◌++◌, map, Result, Ok, Err, IfOk, sym, ap, ◌∙◌, subst, append_assoc}
use Rattle.std.specs.List.{AllByRecursion}
use Rattle.regex_ports.specs.Series.{AreBytes, IsNext}

pub next-some : (more : Bool) (before now : List (List ℕ)) (text : List ℕ) → more ≡ true → IsNext more before text now → before ≡ text ∷ now
next-some true before now text e h = h
next-some false before now text e h = absurd cc

-- two facts of what may be there
pub if-ok-both : {A B : Type 0} (r : Result A B) (P Q R : A → Type 0) → ((v : A) → P v → Q v → R v) → IfOk r P → IfOk r Q → IfOk r R
if-ok-both (Ok v) P Q R f p q = f v p q
if-ok-both (Err e) P Q R f p q = tt

pub tested-more : {X : Type 0} (test : List ℕ → X) (done now : List X) (b : X) (before rest : List (List ℕ)) (text : List ℕ) → now ≡ done ++ b ∷ [] → b ≡ test text → before ≡ text ∷ rest → now ++ map test rest ≡ done ++ map test before
tested-more test done now b before rest text pushed own first =
    ap (λ xs. xs ++ map test rest) pushed
    ∙ append_assoc done (b ∷ []) (map test rest)
    ∙ ap (λ x. done ++ x ∷ map test rest) own
    ∙ ap (λ ts. done ++ map test ts) (sym first)

pub bytes-more : (before rest : List (List ℕ)) (text : List ℕ) → before ≡ text ∷ rest → AreBytes text → AllByRecursion AreBytes rest → AllByRecursion AreBytes before
bytes-more before rest text first here later = subst (AllByRecursion AreBytes) (sym first) (here, later)
