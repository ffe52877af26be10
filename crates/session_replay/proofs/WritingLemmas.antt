-- How far the writing of reports has come.
use Rattle.std.proofs.Common.{◌≡◌, ℕ, ◌+◌, ◌<◌, List, [], ◌∷◌, ◌++◌, length, drop, get_or, refl, sym, ap, ◌∙◌, append_assoc, subst}
use Rattle.std.specs.List.{flat_map}
use Rattle.std.proofs.lemmas.List.{at_drop_more}
use Rattle.std.specs.Io.KnownBytes.{Appends}
use Rattle.std.proofs.KnownBytes.{Appends-trans}
use Rattle.kak_ports.specs.Ports.{Outlet, AppendsFront}
use Rattle.session_lines.specs.Stops.{NoneFailed}

-- of all bytes those before the rest were put, with no fault; where there are none, nothing was put
pub record HasWritten (old now : Outlet) (all rest : List ℕ) : Type 0 where
  pub front : List ℕ
  pub split : all ≡ front ++ rest
  pub added : Appends old.told now.told front
  pub counted : NoneFailed old now
  pub nothing : all ≡ [] → now ≡ old

front-empty : (xs ys : List ℕ) → xs ++ ys ≡ [] → xs ≡ []
front-empty [] ys e = refl
front-empty (x ∷ xs) ys e = cc

back-empty : (xs ys : List ℕ) → xs ++ ys ≡ [] → ys ≡ []
back-empty [] ys e = e
back-empty (x ∷ xs) ys e = cc

-- where there are no bytes at all, the next are none
pub none-next : {old now : Outlet} {all : List ℕ} (bytes rest : List ℕ) → HasWritten old now all (bytes ++ rest) → all ≡ [] → bytes ≡ []
none-next bytes rest w e = front-empty bytes rest (back-empty w.front (bytes ++ rest) (sym w.split ∙ e))

-- the bytes that come next are those of the next of the parts
pub written-at : {X : Type 0} {old now : Outlet} {all : List ℕ} (f : X → List ℕ) (xs : List X) (i : ℕ) (x : X) (bytes : List ℕ) → i < length xs → x ≡ get_or xs i x → bytes ≡ f x
    → HasWritten old now all (flat_map f (drop i xs)) → HasWritten old now all (bytes ++ flat_map f (drop (i + 1) xs))
written-at {old = old} {now = now} {all = all} f xs i x bytes lt is same w =
    let rest = flat_map f (drop (i + 1) xs) in
    let next : flat_map f (drop i xs) ≡ f (get_or xs i x) ++ rest = at_drop_more (flat_map f) xs i x lt in
    let P : List ℕ → Type 0 = λ q. HasWritten old now all q in
    subst P (next ∙ ap (λ y. f y ++ rest) (sym is) ∙ ap (λ q. q ++ rest) (sym same)) w

-- the next bytes were put
pub written-next : {old now : Outlet} {all : List ℕ} (new : Outlet) (bytes rest : List ℕ) → HasWritten old now all (bytes ++ rest)
    → Appends now.told new.told bytes → NoneFailed now new → (bytes ≡ [] → new ≡ now) → HasWritten old new all rest
written-next {old = old} {now = now} {all = all} new bytes rest w added counted nothing = record {
  front = w.front ++ bytes;
  split = w.split ∙ sym (append_assoc w.front bytes rest);
  added = Appends-trans old.told now.told new.told w.front bytes w.added added;
  counted = counted ∙ w.counted;
  nothing = λ e. nothing (none-next bytes rest w e) ∙ w.nothing e;
}

-- a front of the next bytes was put: that is a front of all
pub written-front : {old now : Outlet} {all : List ℕ} (new : Outlet) (bytes rest : List ℕ) → HasWritten old now all (bytes ++ rest)
    → AppendsFront now.told new.told bytes → AppendsFront old.told new.told all
written-front {old = old} {now = now} new bytes rest w f = (
  w.front ++ f.0,
  f.1 ++ rest,
  w.split ∙ ap (λ q. w.front ++ (q ++ rest)) f.2 ∙ ap (λ q. w.front ++ q) (append_assoc f.0 f.1 rest) ∙ sym (append_assoc w.front f.0 (f.1 ++ rest)),
  Appends-trans old.told now.told new.told w.front f.0 w.added f.3,
)
