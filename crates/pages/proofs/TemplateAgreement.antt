-- How the code that reads templates agrees with the definition: a law for each way that a turn of it goes.
use Prim.Native.Nat.{ℕ, zero, suc, ◌+◌, ◌-◌, ◌≤◌, ◌<◌}
use mathlib.Core.Path.{◌≡◌, refl, sym, ◌∙◌}
use mathlib.Core.Logic.{inl, inr}
use mathlib.Core.List.{List, [], ◌∷◌, ◌++◌, append_assoc, append-nil}
use mathlib.Core.Bool.{Bool}
use native.Mathlib.Nat.{eq-or-lt_of_le}
use native.Mathlib.Omega.{arith}
use lib.ListN.{length, get_or, set, length-append, length-set, get_or-append}
use lib.Seq.{get_or-set_same, get_or-set_other, get_or_at}
use borrow.Author.Tests.{eq-eqb, ne_eqb, lt-ltb, le-ltb}
use Rattle.std.specs.Prelude.{Result, Ok, Err}
use Rattle.verdicts.specs.declared.Form.TheVariants.{TooMany}
use Rattle.commands.specs.declared.Context.TheVariants as Contexts
use Rattle.commands.specs.declared.Position.{Position}
use Rattle.commands.specs.declared.ReadError.{ReadError}
use Rattle.commands.specs.declared.Decoded.{Decoded}
use Rattle.commands.specs.declared.Decoded.TheVariants.{Moved, Refused}
use Rattle.commands.specs.Commands.{command}
use Rattle.commands.specs.Inner.Parts.{AgreesWith, Enough, part_of}
use Rattle.commands.proofs.Laws.{moved, refused_with}
use Rattle.pages.specs.declared.Kind.TheVariants.{Template}
use Rattle.pages.specs.declared.Templates.{Templates}
use Rattle.pages.specs.Items.{Items, none}
use Rattle.pages.specs.ItemReading.{items, most_templates, templates}
use Rattle.pages.specs.Inner.Promises.{ItemsRead, StandsAt, Located, TemplatesFrom}
use Rattle.pages.proofs.Laws.{items_move}
use Rattle.pages.proofs.Parts.{agrees_with_made, refused_first_with}
use Rattle.pages.proofs.Trees.{TreeRead, tree_read}

-- The templates from an offset on, after those done: where they are read whole, all of them are located.
abbrev pub TemplatesOn : (ℕ → Bool) → List ℕ → List Items → ℕ → ℕ → Result (Templates × Position) ReadError → Type 0
TemplatesOn ruled s done count at r = (f : ℕ) → Enough s at f
    → AgreesWith (λ φs found. Located ruled s (done ++ φs) found.count found.starts) (templates f ruled s count at) r

module _ (ruled : ℕ → Bool) (s : List ℕ) where
  pub located_none : (starts : List ℕ) → Located ruled s [] 0 starts
  located_none starts = record { counted = refl; located = λ t low high. absurd (omega arith) }

  pub located_more : (φs : List Items) (count : ℕ) (starts : List ℕ) (at : ℕ) (φ : Items) → Located ruled s φs count starts
      → count + 1 < length starts → StandsAt ruled s at φ → Located ruled s (φs ++ (φ ∷ [])) (count + 1) (set starts (count + 1) at)
  located_more φs count starts at φ h fits stands = record {
    counted = omega (arith, length-append φs (φ ∷ []), h.counted);
    located = λ t low high. elim (eq-or-lt_of_le high) [
      | inl e ↦
          let start : get_or (set starts (count + 1) at) t 0 ≡ at = rw e (get_or-set_same starts (count + 1) at 0 fits) in
          let last : get_or (φs ++ (φ ∷ [])) (t - 1) none ≡ φ = get_or_at φs φ [] none (t - 1) (omega (arith, h.counted)) in
          λ f enough. rw (start, last) (stands f (rw start at enough))
      | inr lower ↦
          let start : get_or (set starts (count + 1) at) t 0 ≡ get_or starts t 0 = get_or-set_other starts (count + 1) t at 0 (omega arith) in
          let earlier : get_or (φs ++ (φ ∷ [])) (t - 1) none ≡ get_or φs (t - 1) none = get_or-append φs (φ ∷ []) none (t - 1) (omega (arith, h.counted)) in
          λ f enough. rw (start, earlier) (h.located t low (omega arith) f (rw start at enough))
    ];
  }

module _ (ruled : ℕ → Bool) (s : List ℕ) (done : List Items) (count at : ℕ) where
  pub templates_refused : (e : ReadError) → command Contexts.Templates s at ≡ Refused e.form e.at → TemplatesOn ruled s done count at (Err e)
  unfolding templates
  templates_refused e d zero enough = absurd (omega arith)
  templates_refused e d (suc g) enough = rw d (refl, refl)

  module _ (code : ℕ) (next : Position) (d : command Contexts.Templates s at ≡ Moved code next) where
    pub templates_end : (found : Templates) → code ≡ 0x2F → Located ruled s done found.count found.starts → TemplatesOn ruled s done count at (Ok (found, next))
    unfolding templates
    templates_end found ended located zero enough = absurd (omega arith)
    templates_end found ended located (suc f) enough = rw (d, eq-eqb _ _ ended) (refl, rw (append-nil done) located)

    module _ (starts : code ≡ 0x2F → ⊥) where
      pub templates_many : most_templates ≤ count → TemplatesOn ruled s done count at (Err (record { form = TooMany; at = at }))
      unfolding templates
      templates_many many zero enough = absurd (omega arith)
      templates_many many (suc f) enough = rw (d, ne_eqb _ _ starts, le-ltb _ _ many) (refl, refl)

      module _ (few : count < most_templates) where
        pub template_refused : (e : ReadError) (body : Result Position ReadError) → ItemsRead Template ruled s 0 next.at body → body ≡ Err e
            → TemplatesOn ruled s done count at (Err e)
        unfolding templates
        template_refused e body reads is zero enough = absurd (omega arith)
        template_refused e body reads is (suc g) enough =
            let m = moved Contexts.Templates s at code next d in
            rw (d, ne_eqb _ _ starts, lt-ltb _ _ few) (refused_first_with (items g Template ruled s 0 next.at) body (reads g (omega arith)) _ _ e is)

        pub templates_next : (r : Result (Templates × Position) ReadError) (after : ℕ) (read : TreeRead Template ruled s 0 next.at after)
            → TemplatesOn ruled s (done ++ (read.tree ∷ [])) (count + 1) after r → TemplatesOn ruled s done count at r
        unfolding templates
        templates_next r after read goes zero enough = absurd (omega arith)
        templates_next r after read goes (suc f) enough =
            let m = moved Contexts.Templates s at code next d in
            let reads = read.reads f (omega arith) in
            let n = items_move f Template ruled s 0 next.at read.tree after reads in
            rw (d, ne_eqb _ _ starts, lt-ltb _ _ few, reads)
            (agrees_with_made _ _ (λ φs. read.tree ∷ φs) (λ φs found located. rw (append_assoc done (read.tree ∷ []) φs) at located)
            (templates f ruled s (count + 1) after) r (goes f (omega arith)))

-- The templates done in the turns of a loop: they are located, and what is read after them goes on them.
pub record TemplatesDone (ruled : ℕ → Bool) (s : List ℕ) (from count : ℕ) (starts : List ℕ) (at : ℕ) : Type 0 where
  pub done : List Items
  pub located : Located ruled s done count starts
  pub wide : length starts ≡ 32
  pub goes : (r : Result (Templates × Position) ReadError) → TemplatesOn ruled s done count at r → TemplatesFrom ruled s from r

module _ (ruled : ℕ → Bool) (s : List ℕ) (from : ℕ) where
  pub done_none : (starts : List ℕ) → length starts ≡ 32 → TemplatesDone ruled s from 0 starts from
  done_none starts wide = record { done = []; located = located_none ruled s starts; wide = wide; goes = λ r h. h }

  -- What a turn makes of them; `d` is the command there.
  module _ (count : ℕ) (starts : List ℕ) (at : ℕ) (h : TemplatesDone ruled s from count starts at) (d : Decoded) (d_is : d ≡ command Contexts.Templates s at) where
    pub done_refused : (e : ReadError) → part_of d ≡ Err e → TemplatesFrom ruled s from (Err e)
    done_refused e refuses = h.goes _ (templates_refused ruled s h.done count at e (sym d_is ∙ refused_with d e refuses))

    module _ (code : ℕ) (next : Position) (moves : d ≡ Moved code next) where
      pub done_end : code ≡ 0x2F → TemplatesFrom ruled s from (Ok (record { count = count; starts = starts }, next))
      done_end ended = h.goes _ (templates_end ruled s h.done count at code next (sym d_is ∙ moves) _ ended h.located)

      module _ (begins : code ≡ 0x2F → ⊥) where
        pub done_many : most_templates ≤ count → TemplatesFrom ruled s from (Err (record { form = TooMany; at = at }))
        done_many many = h.goes _ (templates_many ruled s h.done count at code next (sym d_is ∙ moves) begins many)

        module _ (few : count < most_templates) (body : Result Position ReadError) (reads : ItemsRead Template ruled s 0 next.at body) where
          pub done_template_refused : (e : ReadError) → body ≡ Err e → TemplatesFrom ruled s from (Err e)
          done_template_refused e is = h.goes _ (template_refused ruled s h.done count at code next (sym d_is ∙ moves) begins few e body reads is)

          -- It ends further on than the turn began.
          pub done_later : (after : Position) → body ≡ Ok after → length s - after.at < length s - at
          done_later after is =
              let m = moved Contexts.Templates s at code next (sym d_is ∙ moves) in
              let read = tree_read Template ruled s 0 next.at body after is reads in
              omega (arith, read.onward.forward, read.onward.within, m.forward)

          pub done_more : (after : Position) → body ≡ Ok after → TemplatesDone ruled s from (count + 1) (set starts (count + 1) next.at) after.at
          done_more after is =
              let read = tree_read Template ruled s 0 next.at body after is reads in
              record {
                done = h.done ++ (read.tree ∷ []);
                located = located_more ruled s h.done count starts next.at read.tree h.located (omega (arith, h.wide)) λ f enough. (after.at, read.reads f enough);
                wide = length-set starts (count + 1) next.at ∙ h.wide;
                goes = λ r rest. h.goes r (templates_next ruled s h.done count at code next (sym d_is ∙ moves) begins few r after.at read rest);
              }
