-- Plain ranges are settled by where they begin and end alone, so no first one of several counts.
use Rattle.std.proofs.Common.{◌≡◌, ◌≢◌, ℕ, suc, ◌<◌, ◌≤◌, eqb, List, [], ◌∷◌, Some, length, refl, sym, ap, ap₂, ◌∙◌, arith, inl, inr, eqb-true}
use Rattle.std.proofs.lemmas.Bool.{eqb-false}
use Rattle.std.specs.List.{AllByRecursion}
use Rattle.text_model.proofs.CoordLemmas.{test_cases}
use Rattle.list_model.specs.Ranges.{Range, Selected, IsRange}
use Rattle.list_model.specs.Settling.{placed, sorted, swept, settled, ranges}
use Rattle.list_model.specs.Settled.{SomeOf, HoldsAtPlace, Holds, AreApart, IsBridged, BeginsWithFirst, IsSettled, IsSettledList}
use Rattle.list_model.proofs.ListLemmas.{all_weaker, all_both, place_of_below}
use Rattle.list_model.proofs.SettledLemmas.{first_at, first_at-here, first_at-later}
use Rattle.list_model.proofs.SortLemmas.{along_placed, settled-settles}
use Rattle.list_model.proofs.EmbedLemmas.{swept_no_longer}
use Rattle.list_model.proofs.UniqueLemmas.{IsMember, all_at, member_some, first_is_member, settled-unique}
use Rattle.list_model.proofs.MoveLemmas.{is_settled_list}
use Rattle.move_marks.specs.Joining.{IsPlain}

abbrev pub BeginsWith : List Range → Range → Type 0
BeginsWith xs r = SomeOf (λ s. s.low ≡ r.low) xs

-- what settling means for plain ranges
pub record IsSpan (xs : List Range) (main : ℕ) (ys : List Range) (place : ℕ) : Type 0 where
  pub plain : AllByRecursion IsPlain ys
  pub apart : AreApart ys
  pub covers : AllByRecursion (λ s. SomeOf (λ r. Holds r s) ys) xs
  pub bridged : AllByRecursion (IsBridged xs) ys
  pub begins : AllByRecursion (BeginsWith xs) ys
  pub holds_main : HoldsAtPlace (λ s. HoldsAtPlace (λ r. Holds r s) ys place) xs main

pub plain-ranges : (xs : List Range) → AllByRecursion IsPlain xs → AllByRecursion IsRange xs
plain-ranges xs h = all_weaker IsPlain IsRange (λ r p. p.ordered) xs h

pub span-of : (xs ys : List Range) (n p : ℕ) → AllByRecursion IsPlain xs → IsSettled xs n ys p → IsSpan xs n ys p
span-of xs ys n p h s = record {
  plain = all_both IsRange (BeginsWithFirst xs) IsPlain plain ys s.some s.first;
  apart = s.apart;
  covers = s.covers;
  bridged = s.bridged;
  begins = all_weaker (BeginsWithFirst xs) (BeginsWith xs) begins ys s.first;
  holds_main = s.holds_main;
}
  where
    plain : (r : Range) → IsRange r → BeginsWithFirst xs r → IsPlain r
    plain r i b =
        let own : IsPlain b.0 = all_at IsPlain b.0 xs h (first_is_member r.low xs b.0 b.1).0 in
        record { ordered = i; straight = b.2.0 ∙ own.straight; untargeted = b.2.1 ∙ own.untargeted }

    begins : (r : Range) → BeginsWithFirst xs r → BeginsWith xs r
    begins r b =
        let own : IsMember b.0 xs × (b.0.low ≡ r.low) = first_is_member r.low xs b.0 b.1 in
        member_some (λ s. s.low ≡ r.low) b.0 xs own.0 own.1

some-first : (low : ℕ) (xs : List Range) → SomeOf (λ s. s.low ≡ low) xs → (s : Range) × (first_at low xs ≡ Some s)
some-first low [] h = absurd h
some-first low (x ∷ xs) h =
    elim (test_cases (eqb x.low low)) [
      | inl e ↦ (x, first_at-here low x xs (eqb-true x.low low e))
      | inr e ↦ (let apart : x.low ≢ low = eqb-false x.low low e in
          let w : (s : Range) × (first_at low xs ≡ Some s) = some-first low xs (elim h [ inl k ↦ absurd (apart k) | inr k ↦ k ]) in
          (w.0, first_at-later low x xs apart ∙ w.1))
    ]

pub settled-of : (xs ys : List Range) (n p : ℕ) → AllByRecursion IsPlain xs → IsSpan xs n ys p → IsSettled xs n ys p
settled-of xs ys n p h s = record {
  some = plain-ranges ys s.plain;
  apart = s.apart;
  covers = s.covers;
  bridged = s.bridged;
  first = all_both IsPlain (BeginsWith xs) (BeginsWithFirst xs) first ys s.plain s.begins;
  holds_main = s.holds_main;
}
  where
    first : (r : Range) → IsPlain r → BeginsWith xs r → BeginsWithFirst xs r
    first r i b =
        let w : (s : Range) × (first_at r.low xs ≡ Some s) = some-first r.low xs b in
        let own : IsPlain w.0 = all_at IsPlain w.0 xs h (first_is_member r.low xs w.0 w.1).0 in
        (w.0, w.1, (i.straight ∙ sym own.straight, i.untargeted ∙ sym own.untargeted))

pub span-list : (xs ys : List Range) (n p : ℕ) → AllByRecursion IsPlain xs → IsSpan xs n ys p → IsSettledList (record { list = ys; main = p })
span-list xs ys n p h s = is_settled_list xs ys n p (settled-of xs ys n p h s)

-- the settled list of plain ranges
pub span-settled : (s : Selected) → AllByRecursion IsPlain s.list → s.main < length s.list → IsSpan s.list s.main (settled s).list (settled s).main
span-settled s h l = span-of s.list (settled s).list s.main (settled s).main h (settled-settles s (plain-ranges s.list h) (place_of_below s.list s.main l))

-- there is no other
pub span-is : (s t : Selected) → AllByRecursion IsPlain s.list → s.main < length s.list → IsSpan s.list s.main t.list t.main → t ≡ settled s
span-is s t h l k =
    let same : (t.list ≡ (settled s).list) × (t.main ≡ (settled s).main) =
    settled-unique s.list t.list (settled s).list s.main t.main (settled s).main (plain-ranges s.list h) (settled-of s.list t.list s.main t.main h k) (settled-settles s (plain-ranges s.list h) (place_of_below s.list s.main l)) in
    let P : List Range → ℕ → Selected = λ ys n. record { list = ys; main = n } in
    ap₂ P same.0 same.1

-- settling makes no list longer

placed-length : (r : Range) (ss : List Range) → length (placed r ss) ≡ suc (length ss)
placed-length r ss =
    along_placed r (λ ss ys. length ys ≡ suc (length ss)) refl (λ s ss l. refl) (λ s ss ys l f. ap (λ n. suc n) f) ss

sorted-length : (xs : List Range) → length (sorted xs) ≡ length xs
sorted-length [] = refl
sorted-length (x ∷ xs) = placed-length x (sorted xs) ∙ ap (λ n. suc n) (sorted-length xs)

swept-length : (xs : List Range) → length (swept xs) ≤ length xs
swept-length [] = omega arith
swept-length (x ∷ xs) = swept_no_longer ranges x xs

pub settled-short : (xs ys : List Range) (n p : ℕ) → AllByRecursion IsRange xs → n < length xs → IsSettled xs n ys p → length ys ≤ length xs
settled-short xs ys n p h l s =
    let given : Selected = record { list = xs; main = n } in
    let same : (ys ≡ (settled given).list) × (p ≡ (settled given).main) = settled-unique xs ys (settled given).list n p (settled given).main h s (settled-settles given h (place_of_below xs n l)) in
    omega (arith, ap length same.0, swept-length (sorted xs), sorted-length xs)
