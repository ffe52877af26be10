-- What the calls ensure, of the views before and after.
use Rattle.std.proofs.Common.{◌≡◌, ℕ, ◌/◌, List, [], ◌∷◌, ◌++◌, sym, ap, ◌∙◌, subst, inl, inr, ⊎_elim, arith, Option, Some, None, Result, Ok, Err, IfOk, IfErr, OnOk, OnErr}
use Rattle.session_desk.specs.declared.rule.Role.{Role}
use Rattle.session_desk.specs.declared.rule.Role.TheVariants.{Admits, Plays}
use Rattle.session_desk.specs.declared.rule.View.{View}
use Rattle.session_desk.specs.Histories.{entries_by, AddsOne, MaySetMark}
use Rattle.session_desk.specs.Tokens.{DeskPlace, PassView, KeeperView, PassAdds, PassRefuses, Closes, SeesMoreOf}
use Rattle.session_desk.specs.Rule.{SameOwn, Found, MayBecome, length_word}
use Rattle.session_desk.proofs.HistoryLemmas.{none_between, own_one}

-- half of word 1 is the length
pub half_word : (n : ℕ) (mark : Option ℕ) → length_word n mark / 2 ≡ n
half_word n None = omega arith
half_word n (Some k) = omega arith

module _ {O E F M R X : Type 0} (entries : O → List E) (maker : E → ℕ) (marked : O → Option ℕ) (frame_of : O → F)
    (answers : F → List E → Option ℕ → ℕ → M → Result R X → List E → Option ℕ → Type 0) where
  abbrev seen_by : DeskPlace F → ℕ → View E F → PassView E F
  seen_by place n v = record { place = place; number = n; seen = v.seen; mark = v.mark }

  -- a step that added an entry
  pub adds : (place : DeskPlace F) (n : ℕ) (v : View E F) (frame : F) (o o' : O) (mv : M) (result : Result R X) (after : PassView E F) → v.role ≡ Plays n → frame_of o ≡ frame
      → after.seen ≡ entries o' → after.mark ≡ marked o' → Found entries maker marked frame_of v o → answers (frame_of o) (entries o) (marked o) n mv result (entries o') (marked o')
      → OnOk result (AddsOne maker n (entries o) (entries o')) → OnOk result ((marked o ≡ None) × (marked o' ≡ None))
      → IfOk result (λ reply. PassAdds maker (answers frame) (seen_by place n v) after mv reply)
  adds place n v frame o o' mv (Err fault) after is framed seen_is mark_is found answer one bare = tt
  adds place n v frame o o' mv (Ok reply) after is framed seen_is mark_is found answer one bare =
      let between : List E = found.begins.0 in let same : entries_by maker n (entries o) ≡ entries_by maker n v.seen = subst (λ (x : Role). SameOwn maker x (entries o) v.seen) is found.same_own in
      let e : E = one.entry in record {
        between = between;
        entry = e;
        others = none_between maker n (entries o) v.seen found.begins same;
        mine = one.maker_is;
        seen = seen_is ∙ (one.after_is ∙ ap (λ (z : List E). z ++ e ∷ []) found.begins.1);
        own_entries = ap (entries_by maker n) (seen_is ∙ one.after_is) ∙ (own_one maker n (entries o) e one.maker_is ∙ ap (λ (z : List E). z ++ e ∷ []) same);
        answer = subst (λ (p : F × List E × Option ℕ × List E × Option ℕ). answers p.0 p.1 p.2 n mv (Ok reply) p.3 p.4)
            (λ i. (framed i, found.begins.1 i, bare.0 i, sym seen_is i, bare.1 i)) answer;
        unmarked = (⊎_elim (λ (none : v.mark ≡ None). none) (λ (met : v.mark ≡ marked o). met ∙ bare.0) found.met, mark_is ∙ bare.1);
      }

  -- a step that was refused
  pub refuses : (place : DeskPlace F) (n : ℕ) (v : View E F) (frame : F) (o o' : O) (mv : M) (result : Result R X) (after : PassView E F) → v.role ≡ Plays n → frame_of o ≡ frame
      → after.seen ≡ entries o' → after.mark ≡ marked o' → Found entries maker marked frame_of v o → answers (frame_of o) (entries o) (marked o) n mv result (entries o') (marked o')
      → OnErr result (entries o' ≡ entries o) → OnErr result (MaySetMark (entries o) (marked o) (marked o'))
      → IfErr result (λ fault. PassRefuses maker (answers frame) (seen_by place n v) after mv fault)
  refuses place n v frame o o' mv (Ok reply) after is framed seen_is mark_is found answer kept sets = tt
  refuses place n v frame o o' mv (Err fault) after is framed seen_is mark_is found answer kept sets =
      let between : List E = found.begins.0 in let same : entries_by maker n (entries o) ≡ entries_by maker n v.seen = subst (λ (x : Role). SameOwn maker x (entries o) v.seen) is found.same_own in
      let now : after.seen ≡ entries o = seen_is ∙ kept in record {
        between = between;
        marked = marked o;
        others = none_between maker n (entries o) v.seen found.begins same;
        seen = now ∙ found.begins.1;
        own_entries = ap (entries_by maker n) now ∙ same;
        met = found.met;
        answer = subst (λ (p : F × List E × List E × Option ℕ). answers p.0 p.1 (marked o) n mv (Err fault) p.2 p.3)
            (λ i. (framed i, sym now i, sym seen_is i, sym mark_is i)) answer;
        mark = subst (λ (p : List E × Option ℕ). MaySetMark p.0 (marked o) p.1) (λ i. (sym now i, sym mark_is i)) sets;
      }

  -- what a move makes of the object
  pub becomes : (n : ℕ) (o o' : O) (result : Result R X) → OnOk result (AddsOne maker n (entries o) (entries o')) → OnOk result ((marked o ≡ None) × (marked o' ≡ None))
      → OnErr result (entries o' ≡ entries o) → OnErr result (MaySetMark (entries o) (marked o) (marked o')) → MayBecome maker n (entries o) (marked o) (entries o') (marked o')
  becomes n o o' (Ok reply) one bare kept sets = inl (one, bare.0, bare.1)
  becomes n o o' (Err fault) one bare kept sets = inr (kept, sets)

module _ {O E F : Type 0} (entries : O → List E) (maker : E → ℕ) (marked : O → Option ℕ) (frame_of : O → F) where
  abbrev kept_by : DeskPlace F → ℕ → View E F → KeeperView E F
  kept_by place made v = record { place = place; made = made; given = v.given; seen = v.seen; mark = v.mark }

  -- the keeper found the object
  pub sees_more_of : (place : DeskPlace F) (made : ℕ) (v : View E F) (o : O) (after : KeeperView E F) → after.seen ≡ entries o → after.mark ≡ marked o → Found entries maker marked frame_of v o
      → SeesMoreOf maker (kept_by place made v) after
  sees_more_of place made v o after seen_is mark_is found = subst (λ (p : List E × Option ℕ). SeesMoreOf maker (kept_by place made v) record { place = after.place; made = after.made; given = after.given; seen = p.0; mark = p.1 })
      (λ i. (sym seen_is i, sym mark_is i)) record { begins = found.begins; given = found.given; marks = found.marks; mark = found.met }

  pub closes : (place : DeskPlace F) (made out : ℕ) (v : View E F) (o : O) → v.role ≡ Admits made out → Found entries maker marked frame_of v o → Closes maker (kept_by place made v) (entries o) (marked o)
  closes place made out v o is found = record { begins = found.begins; given = found.given; marks = found.marks; numbers = found.numbers made out is; mark = found.met }
