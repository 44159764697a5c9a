-- The patterns of a list so far: what leaves them as they are leaves them so until something changes them.
use Prim.Native.Nat.{ℕ, ◌<◌}
use mathlib.Core.Path.{◌≡◌, refl, sym, subst, ◌∙◌}
use mathlib.Core.List.{List, [], ◌∷◌}
use mathlib.Core.Bool.{Bool, true, false, not, ◌&&◌, ◌||◌, false≢true}
use native.Mathlib.Decide.{ℕ_discrete}
use native.Mathlib.Omega.{arith}
use lib.ListN.{get_or}
use lib.Dec.{eqb}
use borrow.Author.Tests.{ne_eqb}
use Rattle.sets.specs.Sets.{member}
use Rattle.sets.proofs.Laws.{member_zero}
use Rattle.patterns.specs.Inner.Morphisms.{Morphism}
use Rattle.patterns.specs.Inner.Rounds.{Set, only, product}
use Rattle.pattern_sets.specs.Inner.PatternSets.{holds, Same}
use Rattle.pattern_sets.proofs.Tables.{all_members}
use Rattle.schemes.specs.declared.Scheme.{Scheme}
use Rattle.schemes.specs.Inner.Schemes.{StandsFor, Is}
use Rattle.schemes.specs.Inner.Promises.{PatternOfOne, Multiplies, Follows}
use Rattle.languages.specs.declared.Line.{Line}
use Rattle.languages.specs.Inner.Tables.{Used}
use Rattle.languages.specs.Inner.Promises.{LineIs, LineOf, LineWithContent, LineWithGap, LineWithElement}
use Rattle.languages.proofs.Uses.{lawful, is_as, product_as}

-- ---- members

-- A member of the words without one number that is not there was not there before, or is the number.
module _ (set one fewer i : ℕ) (is_one : (k : ℕ) → member one k ≡ (eqb k i || member 0 k)) (is_fewer : (k : ℕ) → member fewer k ≡ (member set k && not (member one k))) where
  absent_too : (k : ℕ) → (k ≡ i → ⊥) → member fewer k ≡ false → member set k ≡ false
  absent_too k ne absent = go (member set k) (sym (is_fewer k ∙ rw (is_one k, ne_eqb k i ne, member_zero k)) ∙ absent)
    where
      go : (t : Bool) → (t && true) ≡ false → t ≡ false
      go true e = absurd (false≢true (sym e))
      go false e = refl

-- ---- lists

module _ {M : Morphism} (takes : List (List ℕ)) where
  pub line_as : (line : Line) (A B : Set) → LineIs M takes line A → ((x : ℕ) → x < M.size → A x ≡ B x) → LineIs M takes line B
  line_as line A B l same = record {
    is = is_as line.set A B l.is same;
    contents = λ c h absent x b. after (only (M.of (c ∷ []))) x ∙ (l.contents c h absent x b ∙ same x b);
    gaps = λ g h absent I is x b. after I x ∙ (l.gaps g h absent I is x b ∙ same x b);
  }
    where
      after : (I : Set) (x : ℕ) → product M B I x ≡ product M A I x
      after I x = product_as M B A I I (λ y k. sym (same y k)) (λ y k. refl) x

  -- What was seen to change nothing.
  module _ (line : Line) (A : Set) (l : LineIs M takes line A) (one fewer i : ℕ) (is_one : (k : ℕ) → member one k ≡ (eqb k i || member 0 k)) where
    less_content : ((k : ℕ) → member fewer k ≡ (member line.contents k && not (member one k))) → ((x : ℕ) → x < M.size → product M A (only (M.of (i ∷ []))) x ≡ A x)
        → LineIs M takes (record { set = line.set; contents = fewer; gaps = line.gaps }) A
    less_content is_fewer unchanged = record { is = l.is; contents = λ c h absent x b. go c h absent x b (ℕ_discrete c i); gaps = l.gaps }
      where
        go : (c : ℕ) → c < 64 → member fewer c ≡ false → (x : ℕ) → x < M.size → Dec (c ≡ i) → product M A (only (M.of (c ∷ []))) x ≡ A x
        go c h absent x b (yes q) = rw q (unchanged x b)
        go c h absent x b (no ne) = l.contents c h (absent_too line.contents one fewer i is_one is_fewer c ne absent) x b

    less_gap : ((k : ℕ) → member fewer k ≡ (member line.gaps k && not (member one k))) → ((I : Set) → Is M (get_or takes i []) I → (x : ℕ) → x < M.size → product M A I x ≡ A x)
        → LineIs M takes (record { set = line.set; contents = line.contents; gaps = fewer }) A
    less_gap is_fewer unchanged = record { is = l.is; contents = l.contents; gaps = λ g h absent I is x b. go g h absent I is x b (ℕ_discrete g i) }
      where
        go : (g : ℕ) → g < 8 → member fewer g ≡ false → (I : Set) → Is M (get_or takes g []) I → (x : ℕ) → x < M.size → Dec (g ≡ i) → product M A I x ≡ A x
        go g h absent I is x b (yes q) = unchanged I (rw (← q) is) x b
        go g h absent I is x b (no ne) = l.gaps g h (absent_too line.gaps one fewer i is_one is_fewer g ne absent) I is x b

  -- The product has the same patterns as the set.
  same_after : (set more : List ℕ) (A I : Set) → Is M set A → Is M more (product M A I) → (t : Bool) → t ≡ true → Same more set t
      → (x : ℕ) → x < M.size → product M A I x ≡ A x
  same_after set more A I is_set is_more true e same x h = sym (is_more.inside x h) ∙ (same x ∙ is_set.inside x h)
  same_after set more A I is_set is_more false e same x h = absurd (false≢true e)

pub line_of : (set : List ℕ) → LineOf set (record { set = set; contents = 0xFFFF_FFFF_FFFF_FFFF; gaps = 0xFFFF_FFFF_FFFF_FFFF })
line_of set M takes A is = record {
  is = is;
  contents = λ c h absent. absurd (false≢true (sym absent ∙ all_members c h));
  gaps = λ g h absent. absurd (false≢true (sym absent ∙ all_members g (omega arith)));
}

module _ (r : Scheme) (line : Line) (c : ℕ) (low : c < 64) where
  pub content_absent : member line.contents c ≡ false → LineWithContent r line c line
  content_absent absent M reads used takes A l = line_as takes line A _ l (λ x h. sym (l.contents c low absent x h))

  module _ (p : ℕ) (one : PatternOfOne r c p) (more : List ℕ) (follows : Follows r line.set p more) where
    content_product : (M : Morphism) → StandsFor r M → Used M → (takes : List (List ℕ)) (A : Set) → LineIs M takes line A → Is M more (product M A (only (M.of (c ∷ []))))
    content_product M reads used takes A l = subst (λ (q : ℕ). Is M more (product M A (only q))) (one M reads)
        (follows M reads A l.is (subst (λ (q : ℕ). q < M.size) (sym (one M reads)) ((lawful used).below (c ∷ []))))

    pub content_kept : (t : Bool) → t ≡ true → Same more line.set t → (single fewer : ℕ) → ((k : ℕ) → member single k ≡ (eqb k c || member 0 k))
        → ((k : ℕ) → member fewer k ≡ (member line.contents k && not (member single k)))
        → LineWithContent r line c (record { set = line.set; contents = fewer; gaps = line.gaps })
    content_kept t e same single fewer is_single is_fewer M reads used takes A l =
        let unchanged = same_after takes line.set more A (only (M.of (c ∷ []))) l.is (content_product M reads used takes A l) t e same in
        line_as takes _ A _ (less_content takes line A l single fewer c is_single is_fewer unchanged) (λ x h. sym (unchanged x h))

    pub content_new : (longer : Line) → LineOf more longer → LineWithContent r line c longer
    content_new longer new M reads used takes A l = new M takes _ (content_product M reads used takes A l)

module _ (r : Scheme) (line : Line) (e : ℕ) (more : Line) where
  pub element_none : (y : Bool) → y ≡ false → (none : List ℕ) → ((x : ℕ) → holds none x ≡ false) → LineOf none more → LineWithElement r line e y more
  element_none false q none nothing new = (none, nothing, new)
  element_none true q none nothing new = absurd (false≢true (sym q))

  pub element_content : (y : Bool) → y ≡ true → LineWithContent r line e more → LineWithElement r line e y more
  element_content true q with_content = with_content
  element_content false q with_content = absurd (false≢true q)

module _ (r : Scheme) (takes : List (List ℕ)) (line : Line) (g : ℕ) (low : g < 8) where
  pub gap_absent : member line.gaps g ≡ false → LineWithGap r takes line g line
  gap_absent absent M reads A I l is = line_as takes line A _ l (λ x h. sym (l.gaps g low absent I is x h))

  module _ (more : List ℕ) (times : Multiplies r line.set (get_or takes g []) more) where
    pub gap_kept : (t : Bool) → t ≡ true → Same more line.set t → (single fewer : ℕ) → ((k : ℕ) → member single k ≡ (eqb k g || member 0 k))
        → ((k : ℕ) → member fewer k ≡ (member line.gaps k && not (member single k)))
        → LineWithGap r takes line g (record { set = line.set; contents = line.contents; gaps = fewer })
    gap_kept t e same single fewer is_single is_fewer M reads A I l is =
        let unchanged : (J : Set) → Is M (get_or takes g []) J → (x : ℕ) → x < M.size → product M A J x ≡ A x =
        λ J j. same_after takes line.set more A J l.is (times M reads A J l.is j) t e same
        in
        line_as takes _ A _ (less_gap takes line A l single fewer g is_single is_fewer unchanged) (λ x h. sym (unchanged I is x h))

    pub gap_new : (longer : Line) → LineOf more longer → LineWithGap r takes line g longer
    gap_new longer new M reads A I l is = new M takes _ (times M reads A I l.is is)
