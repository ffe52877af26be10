-- How the outside stands behind one answer after another.
use Rattle.std.proofs.Common.{◌≡◌, ℕ, ◌+◌, ◌-◌, ◌^◌, ◌≤◌, Bool, true, false, ◌||◌, List, [], ◌∷◌, ◌++◌, refl, sym, ap, ◌∙◌, subst, append-nil, arith}
use Rattle.std.specs.Prelude.{min, nat_le}
use Rattle.std.specs.List.{list_any}
use Rattle.std.proofs.lemmas.Bool.{leb-true, leb-false}
use Rattle.std.proofs.lemmas.List.{append_assoc}
use Rattle.std.proofs.lemmas.List.Folds.{list_any-append}
use Rattle.std.proofs.Math.Nat.{min-le_left, min-le_right, le-min, min-eq_left, min-eq_right}
use Rattle.std.specs.Prelude.{Some, None}
use Rattle.std.specs.declared.option.Option.{Option}
use Rattle.kak_files.specs.declared.files.FileRead.{FileRead}
use Rattle.kak_files.specs.declared.files.FileRead.TheVariants as file
use Rattle.kak_files.specs.declared.files.TheConstants.{MAX_FILE}
use Rattle.kak_files.specs.Files.{FileRow, Shelf, ToldFiles, Reads, ReadIsCounted, Writes, WriteIsCounted}
use Rattle.kak_files.specs.Exchanges.{Exchange, Read as WasRead, Written, Leads, Passed}
use Rattle.kak_ports.specs.declared.sink.Put.{Put}
use Rattle.kak_ports.specs.declared.sink.Put.TheVariants as put
use Rattle.regex_ports.specs.Making.{Rose, IsCounted}
use Rattle.regex_ports.specs.declared.maker.Made.{Made}
use Rattle.regex_ports.specs.declared.maker.Made.TheVariants as maker
use Rattle.session_events.specs.declared.event.Answered.{Answered}
use Rattle.kak_engine.specs.Answering.{made_told, is_built, read_told, put_told}
use Rattle.kak_engine.specs.Asking.{Asked, OfPattern, OfFile, files_in}
use Rattle.kak_engine.specs.Honesty.{Outside, at_opening, is_refused, Stood, CountsRefusal, IsHonest, MakesPattern, ReadsFile, WritesFile, IsKept}
use Rattle.kak_files.proofs.ExchangeLemmas.{leads-none, leads-trans, passed-none, passed-trans, passed-read, passed-written}

-- a count that stands still, and one that doesn't fall
pub stood-same : (n : ℕ) → Stood n n
stood-same n = min-le_left n (2 ^ 64 - 1)

stood-most : (most a b : ℕ) → a ≤ b → min a most ≤ b
stood-most most a b le = omega (arith, le, min-le_left a most)

pub stood-le : (a b : ℕ) → a ≤ b → Stood a b
stood-le a b le = stood-most (2 ^ 64 - 1) a b le

-- one that rose
rose-most : (most a b : ℕ) → min (a + 1) most ≤ b → min a most ≤ b
rose-most most a b r =
    let low : min a most ≤ min (a + 1) most = le-min (omega (arith, min-le_left a most)) (min-le_right a most) in
    omega (arith, low, r)

pub rose-stood : (a b : ℕ) → Rose a b → Stood a b
rose-stood a b r = rose-most (2 ^ 64 - 1) a b r

-- one after another
stood-stood-most : (most a b c : ℕ) → min a most ≤ b → min b most ≤ c → min a most ≤ c
stood-stood-most most a b c s t =
    let low : min a most ≤ min b most = le-min s (min-le_right a most) in
    omega (arith, low, t)

pub stood-stood : (a b c : ℕ) → Stood a b → Stood b c → Stood a c
stood-stood a b c s t = stood-stood-most (2 ^ 64 - 1) a b c s t

rose-then-most : (most a b c : ℕ) → min (a + 1) most ≤ b → min b most ≤ c → min (a + 1) most ≤ c
rose-then-most most a b c r t =
    let low : min (a + 1) most ≤ min b most = le-min r (min-le_right (a + 1) most) in
    omega (arith, low, t)

pub rose-then : (a b c : ℕ) → Rose a b → Stood b c → Rose a c
rose-then a b c r t = rose-then-most (2 ^ 64 - 1) a b c r t

-- behind answers that were honest, it has not fallen
pub counts-stood : (t : Bool) (a b : ℕ) → CountsRefusal t a b → Stood a b
counts-stood true a b h = rose-stood a b h
counts-stood false a b h = h

-- the count didn't fall before some answers
stood-rose-most : (most a b c : ℕ) → min a most ≤ b → min (b + 1) most ≤ c → min (a + 1) most ≤ c
stood-rose-most most a b c s r =
    let up : min (a + 1) most ≤ b + 1 = step most a b s in
    let low : min (a + 1) most ≤ min (b + 1) most = le-min up (min-le_right (a + 1) most) in
    omega (arith, low, r)
  where
    step : (most a b : ℕ) → min a most ≤ b → min (a + 1) most ≤ b + 1
    step most a b s = by (nat_le a most) refl
      where
        by : (t : Bool) → nat_le a most ≡ t → min (a + 1) most ≤ b + 1
        by true e = let same : min a most ≡ a = min-eq_left (leb-true a most e) in omega (arith, min-le_left (a + 1) most, same, s)
        by false e =
            let le : most ≤ a = omega (arith, leb-false a most e) in
            let same : min a most ≡ most = min-eq_right le in
            omega (arith, min-le_right (a + 1) most, same, s)

stood-counts : (t : Bool) (a b c : ℕ) → Stood a b → CountsRefusal t b c → CountsRefusal t a c
stood-counts true a b c s r = stood-rose-most (2 ^ 64 - 1) a b c s r
stood-counts false a b c s r = stood-stood a b c s r

-- answers behind others
counts-behind : (s t : Bool) (a b c : ℕ) → CountsRefusal s a b → CountsRefusal t b c → CountsRefusal (s || t) a c
counts-behind true t a b c h k = rose-then a b c h (counts-stood t b c k)
counts-behind false t a b c h k = stood-counts t a b c h k

-- what was exchanged with the files in two parts
pub files_in-append : (a b : List Asked) → files_in (a ++ b) ≡ files_in a ++ files_in b
files_in-append [] b = refl
files_in-append (OfPattern text built ∷ a) b = files_in-append a b
files_in-append (OfFile exchange ∷ a) b = ap (λ (x : List Exchange). exchange ∷ x) (files_in-append a b)

-- the outside, where it was asked for nothing
pub honest-none : (o : Outside) → IsHonest [] [] o o
honest-none o = record { refusals = stood-same o.refusals; files = passed-none o.shelf; trace = sym (append-nil o.asked) }

pub honest-same : (x y : Outside) → y ≡ x → IsHonest [] [] x y
honest-same x y same = subst (λ (o : Outside). IsHonest [] [] x o) (sym same) (honest-none x)

-- and where it was asked for something, and then for more
pub honest-behind : (a b : List Answered) (d e : List Asked) (x y z : Outside) → IsHonest a d x y → IsHonest b e y z → IsHonest (a ++ b) (d ++ e) x z
honest-behind a b d e x y z h k = record {
  refusals = subst (λ t. CountsRefusal t x.refusals z.refusals) (sym (list_any-append is_refused a b)) (counts-behind (list_any is_refused a) (list_any is_refused b) x.refusals y.refusals z.refusals h.refusals k.refusals);
  files = subst (λ (q : List Exchange). Passed q x.shelf z.shelf) (sym (files_in-append d e)) (passed-trans (files_in d) (files_in e) x.shelf y.shelf z.shelf h.files k.files);
  trace = k.trace ∙ ap (λ (q : List Asked). q ++ e) h.trace ∙ append_assoc x.asked d e;
}

-- what files held when they were made stays
abbrev opened : List FileRow → Bool → Option ToldFiles
opened opening spare = Some (record { opening = opening; held = opening; spare = spare })

opening-same : (exchanges : List Exchange) (x y : Option ToldFiles) → Leads exchanges x y → at_opening y ≡ at_opening x
opening-same exchanges None None l = refl
opening-same exchanges (Some old) (Some new) l = ap (λ o. opened o new.spare) l.opening ∙ ap (λ s. opened old.opening s) l.spare
opening-same exchanges None (Some new) l = absurd l
opening-same exchanges (Some old) None l = absurd l

-- more exchanges lead on from what the files hold
kept-behind : (d e : List Exchange) (x y : Option ToldFiles) → Leads d (at_opening x) x → Leads e x y → Leads (d ++ e) (at_opening y) y
kept-behind d e x y h k = subst (λ (o : Option ToldFiles). Leads (d ++ e) o y) (sym (opening-same e x y k)) (leads-trans d e (at_opening x) x y h k)

pub kept-more : (answers : List Answered) (d : List Exchange) (e : List Asked) (x y : Outside) → IsKept d x.shelf → IsHonest answers e x y → IsKept (d ++ files_in e) y.shelf
kept-more answers d e x y h k = kept-behind d (files_in e) x.shelf.told y.shelf.told h k.files.told

-- files that hold what they held when they were made
pub kept-first : (told : Option ToldFiles) → told ≡ at_opening told → Leads [] (at_opening told) told
kept-first told e = subst (λ (o : Option ToldFiles). Leads [] o told) e (leads-none told)

-- a maker of patterns that answered, while the files were asked for nothing
pub made-counts : {P : Type 0} (made : Made P) (a b : ℕ) → IsCounted made a b → CountsRefusal (list_any is_refused (made_told made ∷ [])) a b
made-counts (maker.Built p) a b c = stood-le a b c
made-counts maker.Refused a b c = c

pub made-honest : {P : Type 0} (made : Made P) (text : List ℕ) (shelf : Shelf) (a b : ℕ) (was now : List Asked) → IsCounted made a b → now ≡ was ++ OfPattern text (is_built made) ∷ []
    → MakesPattern made text (record { shelf = shelf; refusals = a; asked = was }) (record { shelf = shelf; refusals = b; asked = now })
made-honest made text shelf a b was now c t = record { refusals = made-counts made a b c; files = passed-none shelf; trace = t }

-- and files that were read or written, while the maker was asked for nothing
read-counts : (read : FileRead) (n : ℕ) → CountsRefusal (list_any is_refused (read_told read ∷ [])) n n
read-counts (file.Bytes bytes) n = stood-same n
read-counts file.NotThere n = stood-same n
read-counts file.TooBig n = stood-same n
read-counts file.Failed n = stood-same n

pub read-honest : (read : FileRead) (name : List ℕ) (x y : Shelf) (n : ℕ) (was now : List Asked) → Reads read name MAX_FILE x.told → y.told ≡ x.told → ReadIsCounted read x.faults y.faults → now ≡ was ++ OfFile (WasRead name read) ∷ []
    → ReadsFile read name (record { shelf = x; refusals = n; asked = was }) (record { shelf = y; refusals = n; asked = now })
read-honest read name x y n was now reads keeps counted t = record { refusals = read-counts read n; files = passed-read name read x y reads keeps counted; trace = t }

put-counts : (put : Put) (n : ℕ) → CountsRefusal (list_any is_refused (put_told put ∷ [])) n n
put-counts put.Done n = stood-same n
put-counts put.Failed n = stood-same n

pub put-honest : (put : Put) (name bytes : List ℕ) (x y : Shelf) (n : ℕ) (was now : List Asked) → Writes put name bytes x.told y.told → WriteIsCounted put x.faults y.faults → now ≡ was ++ OfFile (Written name bytes put) ∷ []
    → WritesFile put name bytes (record { shelf = x; refusals = n; asked = was }) (record { shelf = y; refusals = n; asked = now })
put-honest put name bytes x y n was now writes counted t = record { refusals = put-counts put n; files = passed-written name bytes put x y writes counted; trace = t }
