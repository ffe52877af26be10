-- Worked examples of what is kept by scope, which hold by computation: it goes with its client or its buffer.
use Rattle.std.specs.Prelude.{◌≡◌, [], ◌∷◌, codes}
use Rattle.scope_options.specs.declared.scope.Scope.{Scope}
use Rattle.scope_options.specs.declared.scope.Scope.TheVariants.{Global, Buffer, Window}
use Rattle.highlight_paint.specs.Painters.{Highlighter, highlighter, HoldsOthers}
use Rattle.scope_tables.specs.declared.aliases.Alias.{Alias}
use Rattle.scope_tables.specs.Aliases.{alias_row, with_alias}
use Rattle.kak_world.specs.Flat.{Flat, opening, highlighters_of, tables_of, faces_of, with_highlighters, left_by_client}
use Rattle.kak_world.specs.Scoping.{with_aliases}
use Rattle.kak_world.specs.Dropping.{dropped}
use Rattle.kak_world.specs.ShowingExamples.{seen_a}

-- a group of highlighters at a scope, and a word that stands for `edit` there
abbrev pub group_at : Scope → Highlighter
group_at scope = highlighter scope (codes "g") HoldsOthers

abbrev pub alias_at : Scope → Alias
alias_at scope = alias_row scope (codes "o") (codes "edit")

-- where 7 sees the buffer 1, and 9 the buffer 0: such groups everywhere, in the window of 7, in the buffer 1 and in the window of 9
abbrev pub painted : Flat
painted = with_highlighters (group_at Global ∷ group_at (Window 7 1) ∷ group_at (Buffer 1) ∷ group_at (Window 9 0) ∷ []) seen_a

-- and such words in both windows
abbrev pub aliased : Flat
aliased = with_aliases (λ rows. with_alias (Window 9 0) (codes "o") (codes "edit") (with_alias (Window 7 1) (codes "o") (codes "edit") rows)) painted

pub record ScopedExamples : Type 0 where
  pub nothing_at_first : highlighters_of opening ≡ []
  pub windows_of_who_goes_go : highlighters_of (left_by_client 7 painted) ≡ group_at Global ∷ group_at (Buffer 1) ∷ group_at (Window 9 0) ∷ []
  pub buffer_goes_with_its_windows : highlighters_of (dropped 1 painted) ≡ group_at Global ∷ group_at (Window 9 0) ∷ []
  pub words_are_there : (tables_of aliased).aliases ≡ alias_at (Window 7 1) ∷ alias_at (Window 9 0) ∷ []
  pub words_of_who_goes_go : (tables_of (left_by_client 7 aliased)).aliases ≡ alias_at (Window 9 0) ∷ []
  pub words_of_a_buffer_go : (tables_of (dropped 1 aliased)).aliases ≡ alias_at (Window 9 0) ∷ []
  pub one_does_not_reach_the_other : highlighters_of aliased ≡ highlighters_of painted
  pub nor_the_faces : faces_of aliased ≡ faces_of opening
