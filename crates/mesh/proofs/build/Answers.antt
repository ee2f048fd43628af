use mathlib.Core.Path.{refl, sym, ◌∙◌}
use native.Mathlib.Omega.{arith}
use Rattle.std.proofs.lemmas.Result.{err_from_is_err_and}
use Rattle.case_file.specs.Trailer.{words_from}
use Rattle.case_file.proofs.TrailerLaws.{opens}
use Rattle.case_definitions.proofs.Walking.{length-definitions}
use Rattle.case_survey.proofs.Laws.{faces-few, length-words_of, words_same}
use Rattle.mesh.proofs.Laws.{from-refused, from-filled, built-as, barred}
use borrow.Author.Rules.{rules}
use Rattle.mesh.proofs.build.Goals as goal

pub accept-requires : goal.accept-requires
accept-requires c = let o = opens _ _ c.requires.opens in record { few = o.points; long = omega arith }

pub returns-in_err-accept : goal.returns-in_err-accept
returns-in_err-accept c =
    let p = err_from_is_err_and c.from_residual.result c.from_residual.ensures.1 in
    rw (p.1, p.2) (λ defs e. barred (from-refused _ defs _ _ (sym c.in_err-accept.was ∙ c.accept.ensures defs (length-definitions _ _ _ e))))

pub words-ws-requires : goal.words-ws-requires
unfolding words_from
words-ws-requires c = let o = opens _ _ c.requires.opens in omega arith

pub fill-requires : goal.fill-requires
fill-requires c =
    let p = c.requires in
    let o = opens _ _ p.opens in
    let few = rw (← p.counted) at (faces-few _ _ _ p.opens p.right) in
    let ws = words_same _ _ p.opens _ c.words-ws.ensures in
    record {
      lent-words = record { few-slots = few; few-faces = search rules; few-cells = o.cells; long = p.long-words };
      lent-floats = record { few-slots = few; few-faces = search rules; few-cells = o.cells; long = p.long-floats };
      empty = refl;
      points-few = o.points;
      points-there = omega arith;
      words-few = rw ws (omega (arith, length-words_of c.args.case.now c.args.n));
      defs = p.defs;
      right = rw ws p.right;
      slots = p.counted;
    }

pub returns : goal.returns
returns c = λ defs e.
    built-as (sym (from-filled _ defs _ (sym c.in_ok-accept.was ∙ c.accept.ensures defs (length-definitions _ _ _ e)))) refl
    (c.fill.ensures defs (rw (words_same _ _ c.requires.opens _ c.words-ws.ensures) e))
