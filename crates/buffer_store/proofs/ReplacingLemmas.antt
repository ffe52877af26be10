-- Lemmas on the replacement of a range of a text.
use Rattle.std.proofs.Common.{◌≡◌, ℕ, ◌+◌, ◌-◌, ◌<◌, ◌≤◌, Bool, true, false, ltb, ◌&&◌, List, [], ◌∷◌, ◌++◌, length, take, drop, refl, sym, ap, ap₂, subst, ◌∙◌, arith, Some, None, option_to_list, Ok, Err, OnOk, IfOk, inl, inr, length-append, length-take-le, length-drop, take_at, drop_at, lt-ltb, le-ltb, ne_eqb, eq-eqb, ltb-true}
use Rattle.std.specs.declared.option.Option.{Option}
use Rattle.std.specs.declared.result.Result.{Result}
use Rattle.std.proofs.lemmas.List.{drop_all, drop-drop}
use Rattle.text_model.specs.declared.TheConstants.{MAX_CHARS}
use Rattle.text_model.specs.declared.coords.Coord.{Coord}
use Rattle.text_model.specs.declared.coords.Shift.{Shift}
use Rattle.text_model.specs.Coords.{origin, reached}
use Rattle.text_model.specs.Texts.{IsText, IsStored, IsPlaceOrEnd, lines_of, offset, coord_at, end_coord, ends_in_newline}
use Rattle.text_model.specs.Changes.{Change, Insertion, all_changed, put_in, inserted, taken_end, erased, insertion_of, insertion, erasure, front, exchange, replacement}
use Rattle.text_model.proofs.PlaceLemmas.{offset-below, offset-coord_at, coord_at-offset_or_end, IsPlaceOrEnd-coord_at, offset-end}
use Rattle.text_model.proofs.ChangeLemmas.{IsText-append, IsText-drop, IsText-erased, taken_end-within, taken_end-inside, erasure-changes, exchange-changes, put_in-inside, replacement-plain, replacement-kept, replacement-inside}
use Rattle.line_buffer.proofs.InsertLemmas.{place_by_line, end_by_line}
use Rattle.undo_model.specs.Stories.{Story, edited, is_undo_full}
use Rattle.buffer_store.specs.Stored.{shift_of, change_shifts}
use Rattle.buffer_store.specs.Histories.{IsWholly, IsBehind, end_of}
use Rattle.buffer_store.proofs.PartLemmas.{edited-text, undo_full-behind, wholly-then}

-- what stands before an erasure
erased-long : (text : List ℕ) (p q : ℕ) → IsText text → p ≤ q → q ≤ length text → p ≤ length (erased text p q)
erased-long text p q h k l =
    let within : (p ≤ taken_end text p q) × (taken_end text p q ≤ q) = taken_end-within text p q h k l in
    omega (arith, length-append (take p text) (drop (taken_end text p q) text), length-take-le p text (omega arith), within.0)

-- a coordinate before an erasure stays
erased-coord : (text : List ℕ) (p q : ℕ) → p ≤ length text → coord_at (erased text p q) p ≡ coord_at text p
erased-coord text p q l = ap (reached origin) (take_at (take p text) (drop (taken_end text p q) text) p (length-take-le p text l))

-- where the characters go in, behind the erasure of a range
pub record CanGoIn (who : ℕ) (at : Coord) (s : List ℕ) (old mid : Story) (p q : ℕ) : Type 0 where
  pub text : mid.text ≡ erased old.text p q
  pub place : IsPlaceOrEnd mid.text at
  pub at_is : at ≡ coord_at (erased old.text p q) p
  pub offset_is : offset mid.text at ≡ p
  pub room : length (inserted mid.text (offset mid.text at) s) ≤ MAX_CHARS
  pub nodes : is_undo_full who (insertion mid.text (offset mid.text at) s) mid ≡ false
  pub same : insertion mid.text (offset mid.text at) s ≡ insertion (erased old.text p q) p s

pub can-go_in : (who : ℕ) (at : Coord) (s : List ℕ) (old mid : Story) (q : ℕ) → IsStored old.text → IsPlaceOrEnd old.text at → offset old.text at ≤ q → q ≤ length old.text → mid ≡ edited who (erasure old.text (offset old.text at) q) old
    → length (all_changed old.text (exchange old.text (offset old.text at) q s)) ≤ MAX_CHARS → is_undo_full who (exchange old.text (offset old.text at) q s) old ≡ false → CanGoIn who at s old mid (offset old.text at) q
can-go_in who at s old mid q h place k l e small full =
    let t : List ℕ = old.text in
    let p : ℕ = offset t at in
    let text : mid.text ≡ erased t p q = ap (λ (x : Story). x.text) e ∙ edited-text who (erasure t p q) old ∙ erasure-changes t p q h.is_text k l in
    let at_is : at ≡ coord_at (erased t p q) p = sym (coord_at-offset_or_end t at h.is_text place) ∙ sym (erased-coord t p q (omega arith)) in
    let long : p ≤ length (erased t p q) = erased-long t p q h.is_text k l in
    let there : IsPlaceOrEnd (erased t p q) (coord_at (erased t p q) p) = IsPlaceOrEnd-coord_at (erased t p q) p (IsText-erased t p q h.is_text k l) long in
    let off : offset mid.text at ≡ p = ap₂ offset text at_is ∙ offset-coord_at (erased t p q) p long in
    let same : insertion mid.text (offset mid.text at) s ≡ insertion (erased t p q) p s = ap₂ (λ x o. insertion x o s) text off in
    record {
      text = text;
      place = subst (λ x. IsPlaceOrEnd x at) (sym text) (subst (IsPlaceOrEnd (erased t p q)) (sym at_is) there);
      at_is = at_is;
      offset_is = off;
      room = omega (arith, ap₂ (λ x o. length (inserted x o s)) text off, ap length (exchange-changes t p q s h.is_text k l));
      nodes =
          (let F : Story → List Change → Type 0 = λ x cs. is_undo_full who cs x ≡ false in
          subst (λ cs. F mid cs) (sym same) (subst (λ x. F x (insertion (erased t p q) p s)) (sym e) (undo_full-behind who (erasure t p q) (insertion (erased t p q) p s) old full)));
      same = same;
    }

-- both changes, with their shifts
pub exchange-wholly : (who : ℕ) (at : Coord) (s : List ℕ) (old mid new : Story) (p q : ℕ) (before reserved between after : List Shift) (taken put : Option Shift) → CanGoIn who at s old mid p q → mid ≡ edited who (erasure old.text p q) old → new ≡ edited who (insertion mid.text (offset mid.text at) s) mid
    → reserved ≡ before → between ≡ reserved ++ option_to_list taken → after ≡ between ++ option_to_list put → option_to_list taken ≡ change_shifts old.text (erasure old.text p q) → option_to_list put ≡ change_shifts mid.text (insertion mid.text (offset mid.text at) s)
    → IsWholly who (exchange old.text p q s) old new before after
exchange-wholly who at s old mid new p q before reserved between after taken put c e f r b a ts ps =
    let first : IsWholly who (erasure old.text p q) old mid before between = record { story = e; shifts_are = b ∙ ap₂ (λ x y. x ++ y) r ts } in
    let second : IsWholly who (insertion mid.text (offset mid.text at) s) mid new between after = record { story = f; shifts_are = a ∙ ap (λ x. between ++ x) ps } in
    wholly-then who (erasure old.text p q) (insertion (erased old.text p q) p s) old mid new before between after first (subst (λ cs. IsWholly who cs mid new between after) c.same second)

-- the end of what was put in
put-end : (text : List ℕ) (p : ℕ) (r : List ℕ) (put : Option Shift) (at : Coord) → at ≡ coord_at text p → option_to_list put ≡ change_shifts text (insertion_of p r) → end_of at put ≡ coord_at (all_changed text (insertion_of p r)) (p + length r)
put-end text p [] None at e h = let z : p + 0 ≡ p = omega arith in e ∙ ap (coord_at text) (sym z)
put-end text p [] (Some s) at e h = cc
put-end text p (c ∷ cs) None at e h = cc
put-end text p (c ∷ cs) (Some s) at e h = let one : s ≡ shift_of text (Insertion p (c ∷ cs)) = cc in ap (λ (x : Shift). x.end) one

pub exchange-behind : (who : ℕ) (at : Coord) (s : List ℕ) (old mid new : Story) (p q : ℕ) (put : Option Shift) → CanGoIn who at s old mid p q → new ≡ edited who (insertion mid.text (offset mid.text at) s) mid → option_to_list put ≡ change_shifts mid.text (insertion mid.text (offset mid.text at) s)
    → end_of at put ≡ coord_at new.text (p + length (put_in (erased old.text p q) p s))
exchange-behind who at s old mid new p q put c f ps =
    let e : List ℕ = erased old.text p q in
    let text : new.text ≡ all_changed e (insertion e p s) = ap (λ (x : Story). x.text) f ∙ edited-text who (insertion mid.text (offset mid.text at) s) mid ∙ ap₂ all_changed c.text c.same in
    let is : option_to_list put ≡ change_shifts e (insertion e p s) = ps ∙ ap₂ change_shifts c.text c.same in
    put-end e p (put_in e p s) put at c.at_is is ∙ ap (λ x. coord_at x (p + length (put_in e p s))) (sym text)

and-false : (v : Bool) → v && false ≡ false
and-false true = refl
and-false false = refl

-- inside a text a replacement is an exchange
pub inside-plain : (text : List ℕ) (p q : ℕ) (s : List ℕ) → q < length text → replacement text p q s ≡ exchange text p q s
inside-plain text p q s l =
    replacement-plain text p q s (ap (λ v. ltb p q && (v && ends_in_newline s)) (ne_eqb q (length text) (λ e. omega arith)) ∙ and-false (ltb p q))

-- and behind what it puts in stands what stood behind the range
pub inside-behind : (who : ℕ) (from at b : Coord) (s : List ℕ) (old new : Story) → IsStored old.text → IsPlaceOrEnd old.text from → IsPlaceOrEnd old.text at → offset old.text from ≤ offset old.text at → offset old.text at < length old.text
    → length (all_changed old.text (replacement old.text (offset old.text from) (offset old.text at) s)) ≤ MAX_CHARS → new ≡ edited who (replacement old.text (offset old.text from) (offset old.text at) s) old
    → b ≡ coord_at new.text (offset old.text from + length (put_in (erased old.text (offset old.text from) (offset old.text at)) (offset old.text from) s)) → IsBehind old.text new.text at b
inside-behind who from at b s old new h fp tp k l small e is =
    let t : List ℕ = old.text in
    let p : ℕ = offset t from in
    let q : ℕ = offset t at in
    let changed_is : all_changed t (replacement t p q s) ≡ take p t ++ (s ++ drop q t) = replacement-inside t p q s h.is_text k l in
    let text : new.text ≡ take p t ++ (s ++ drop q t) = ap (λ (x : Story). x.text) e ∙ edited-text who (replacement t p q s) old ∙ changed_is in
    let e-long : length (erased t p q) ≡ p + (length t - q) = omega (arith, ap (λ n. length (take p t ++ drop n t)) (taken_end-inside t p q l), length-append (take p t) (drop q t), length-take-le p t (omega arith), length-drop q t) in
    let put : put_in (erased t p q) p s ≡ s = put_in-inside (erased t p q) p s (omega arith) in
    let long : length (take p t ++ (s ++ drop q t)) ≡ p + (length s + (length t - q)) = omega (arith, length-append (take p t) (s ++ drop q t), length-append s (drop q t), length-take-le p t (omega arith), length-drop q t) in
    let new-text : IsText (take p t ++ (s ++ drop q t)) = IsText-append (take p t) (s ++ drop q t) (IsText-append s (drop q t) (IsText-drop t q h.is_text l)) in
    let stored : IsStored new.text = subst IsStored (sym text) (record { is_text = new-text; small = omega (arith, ap length changed_is) }) in
    let b-is : b ≡ coord_at new.text (p + length s) = is ∙ ap (λ x. coord_at new.text (p + length x)) put in
    let within : p + length s ≤ length new.text = omega (arith, ap length text) in
    let off : offset new.text b ≡ p + length s = ap (offset new.text) b-is ∙ offset-coord_at new.text (p + length s) within in
    record {
      stored = stored;
      place = subst (IsPlaceOrEnd new.text) (sym b-is) (IsPlaceOrEnd-coord_at new.text (p + length s) stored.is_text within);
      tied = record {
        from_in = omega arith;
        onto_in = omega (arith, off);
        same = sym (ap₂ drop off text ∙ sym (drop-drop (length s) p (take p t ++ (s ++ drop q t))) ∙ ap (drop (length s)) (drop_at (take p t) (s ++ drop q t) p (length-take-le p t (omega arith))) ∙ drop_at s (drop q t) (length s) refl);
      };
    }

-- behind the end stands nothing
pub end-behind : (old new : List ℕ) (at b : Coord) → IsStored new → at ≡ end_coord old → b ≡ end_coord new → IsBehind old new at b
end-behind old new at b h e f =
    let from : offset old at ≡ length old = ap (offset old) e ∙ offset-end old in
    let onto : offset new b ≡ length new = ap (offset new) f ∙ offset-end new in
    record {
      stored = h;
      place = inr f;
      tied = record {
        from_in = omega arith;
        onto_in = omega arith;
        same = drop_all (offset old at) old (omega arith) ∙ sym (drop_all (offset new b) new (omega arith));
      };
    }

-- whether a place isn't the end, by its line
line-test : (text : List ℕ) (at : Coord) → IsPlaceOrEnd text at → ltb at.line (length (lines_of text)) ≡ ltb (offset text at) (length text)
line-test text at (inl place) = lt-ltb at.line (length (lines_of text)) place.on_line ∙ sym (lt-ltb (offset text at) (length text) (offset-below text at place))
line-test text at (inr end) = le-ltb at.line (length (lines_of text)) (omega (arith, ap (λ (x : Coord). x.line) end)) ∙ sym (le-ltb (offset text at) (length text) (omega (arith, ap (offset text) end, offset-end text)))

and-both : (a b : Bool) → a && b ≡ true → (a ≡ true) × (b ≡ true)
and-both true b h = (refl, h)
and-both false b h = cc

-- a line before the last one ends before the end
pub below-by_line : (lines text : List ℕ) (at : Coord) (n : ℕ) → IsPlaceOrEnd text at → at.line < n → n ≡ length (lines_of lines) → lines ≡ text → offset text at < length text
below-by_line lines text at n place lt e same = offset-below text at (place_by_line text at place (omega (arith, ap (λ t. length (lines_of t)) same)))

pub end-by_line : (lines text : List ℕ) (at : Coord) (n : ℕ) → IsPlaceOrEnd text at → n ≤ at.line → n ≡ length (lines_of lines) → lines ≡ text → at ≡ end_coord text
end-by_line lines text at n place le e same = end_by_line text at place (omega (arith, ap (λ t. length (lines_of t)) same))

-- a fact of what is well, from two others
pub if-ok : {T E : Type 0} (r : Result T E) (P : Type 0) (Q R : T → Type 0) → ((x : T) → P → Q x → R x) → OnOk r P → IfOk r Q → IfOk r R
if-ok (Ok x) P Q R f h k = f x h k
if-ok (Err e) P Q R f h k = tt

-- where the last newline stays
pub record IsEndKept (text : List ℕ) (from last : Coord) (s : List ℕ) : Type 0 where
  pub ordered : offset text from ≤ offset text last
  pub same : replacement text (offset text from) (length text) s ≡ exchange text (offset text from) (offset text last) (front s)

pub end-kept : (text : List ℕ) (from at last : Coord) (s : List ℕ) → IsPlaceOrEnd text from → at ≡ end_coord text → offset text last ≡ length text - 1 → ltb from.line at.line && ends_in_newline s ≡ true → IsEndKept text from last s
end-kept text from at last s place e off both =
    let tests : (ltb from.line at.line ≡ true) × (ends_in_newline s ≡ true) = and-both (ltb from.line at.line) (ends_in_newline s) both in
    let inside : from.line < length (lines_of text) = omega (arith, ltb-true from.line at.line tests.0, ap (λ (x : Coord). x.line) e) in
    let below : offset text from < length text = offset-below text from (place_by_line text from place inside) in
    record {
      ordered = omega (arith, off);
      same = replacement-kept text (offset text from) (length text) s below refl tests.1 ∙ ap (λ n. exchange text (offset text from) n (front s)) (sym off);
    }

-- and where it doesn't
pub end-plain : (text : List ℕ) (from at : Coord) (s : List ℕ) → IsPlaceOrEnd text from → at ≡ end_coord text → ltb from.line at.line && ends_in_newline s ≡ false → replacement text (offset text from) (length text) s ≡ exchange text (offset text from) (offset text at) s
end-plain text from at s place e none =
    replacement-plain text (offset text from) (length text) s
    (ap (λ v. ltb (offset text from) (length text) && (v && ends_in_newline s)) (eq-eqb (length text) (length text) refl)
    ∙ ap (λ v. v && ends_in_newline s) (sym (line-test text from place) ∙ ap (λ (x : Coord). ltb from.line x.line) (sym e)) ∙ none)
    ∙ ap (λ n. exchange text (offset text from) n s) (sym (ap (offset text) e ∙ offset-end text))
