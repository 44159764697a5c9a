-- 11 by the lowest root, and then 12, 14 or 15 by the lowest wrong element. A job has no more templates than the guard lets through.
use native.Mathlib.Omega.{arith}
use Rattle.shows.proofs.Graphs.{root_found, element_found, nothing_found}
use Rattle.shows.proofs.decide.Goals as goal

pub returns-then-templates-gt-MOST_TEMPLATES : goal.returns-then-templates-gt-MOST_TEMPLATES
returns-then-templates-gt-MOST_TEMPLATES c = λ j p A. let few = A.few in absurd (omega arith)

pub returns-in-Some : goal.returns-in-Some
returns-in-Some c = λ j p A.
    let bytes = c.type_inv.s in
    root_found _ _ _ _ _ _ j p A (λ i. (bytes i).fits) c.root_scheme-root.result c.root_scheme-root.ensures c.settle.result _ c.settle.ensures c.roots.result c.roots.ensures c.lowest_root.result c.lowest_root.ensures _ c.in-Some.is

pub returns-in-Some-wrong_elements : goal.returns-in-Some-wrong_elements
returns-in-Some-wrong_elements c = λ j p A.
    let bytes = c.type_inv.s in
    element_found _ _ _ _ _ _ j p A (λ i. (bytes i).fits) c.root_scheme-root.result c.root_scheme-root.ensures c.settle.result _ c.settle.ensures c.roots.result c.roots.ensures c.lowest_root.result c.lowest_root.ensures c.in_default.is
    c.wrong_elements.result c.wrong_elements.ensures _ c.in-Some-wrong_elements.is

pub returns : goal.returns
returns c = λ j p A.
    let bytes = c.type_inv.s in
    nothing_found _ _ _ _ _ _ j p A (λ i. (bytes i).fits) c.root_scheme-root.result c.root_scheme-root.ensures c.settle.result _ c.settle.ensures c.roots.result c.roots.ensures c.lowest_root.result c.lowest_root.ensures c.in_default.is
    c.wrong_elements.result c.wrong_elements.ensures c.in_default-wrong_elements.is
