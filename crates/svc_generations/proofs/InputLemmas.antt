-- The blocks of an input, one after the other, and what stands before and behind them.
use Rattle.std.proofs.Common.{◌≡◌, ℕ, zero, suc, ◌+◌, ◌<◌, ◌≤◌, Bool, true, false, List, [], ◌∷◌, ◌++◌, length, Option, Some, None, Result, Ok, Err, refl, sym, ap, ◌∙◌, append_assoc, append-nil, arith, if◌then◌else◌}
use Rattle.std.specs.Prelude.{codes}
use Rattle.std.specs.Str.Lines.{lines}
use Rattle.svc_text.specs.Script.{Parts, script, script_of}
use Rattle.svc_generations.specs.declared.steps.Step.{Step}
use Rattle.svc_text.specs.declared.parsing.ScriptError.{ScriptError}
use Rattle.svc_text.specs.declared.parsing.ScriptError.TheVariants.{Line, NoMemory}
use Rattle.svc_generations.specs.BlockReadings.{first_line, begins_front, IsBehind, RefusesBlock}
use Rattle.svc_generations.specs.Inputs.{is_generation, block_lines, behind_block, script_lines, daemon_from, refused_at, block_of, BlockParts, InputParts, with_steps, blocks_before, block_before, begins_with, steps_behind, blocks_from, first_block, is_front, input_from, input_of}
use Rattle.svc_generations.proofs.BlockTextLemmas.{if_on, if_off}

-- a line that is refused besides
pub refused_more : (daemon : Option ℕ) (n : ℕ) → refused_at daemon (Err n) ≡ Err (first_line daemon n)
refused_more None n = refl
refused_more (Some d) n = refl

-- what a block says, by its text
pub block_says : (text : List ℕ) (daemon : Option ℕ) (ls : List (List ℕ)) (r : Result Parts ℕ) → lines text ≡ script_lines ls → daemon ≡ daemon_from 0 0 ls
    → refused_at daemon (script text) ≡ r → block_of ls ≡ r
unfolding script
block_says text daemon ls r own first read =
    sym (ap (λ (d : Option ℕ). refused_at d (script_of (script_lines ls))) first) ∙ sym (ap (λ (xs : List (List ℕ)). refused_at daemon (script_of xs)) own)
    ∙ read

pub refuses_block : (before n : ℕ) (read : Result Parts ℕ) (error : ScriptError) → read ≡ Err n → IsBehind before n error → RefusesBlock before read error
refuses_block before n read (Line number) said at = (n, said, at)
refuses_block before n read NoMemory said at = tt

blocks_join : (front : List BlockParts) (b : BlockParts) (more : Result InputParts ℕ)
    → blocks_before front (blocks_before (b ∷ []) more) ≡ blocks_before (front ++ b ∷ []) more
blocks_join front b (Ok more) = ap (λ (bs : List BlockParts). Ok (record { blocks = bs; steps = more.steps })) (sym (append_assoc front (b ∷ []) more.blocks))
blocks_join front b (Err n) = refl

pub blocks_none : (more : Result InputParts ℕ) → blocks_before [] more ≡ more
blocks_none (Ok more) = refl
blocks_none (Err n) = refl

-- the lines begin with a block
block_next : (n passed : ℕ) (rest after : List ℕ) → lines rest ≡ codes "%generation" ∷ lines after
    → blocks_from (suc n) passed (lines rest)
    ≡ block_before (passed + 1) (script_lines (block_lines (lines after))) (block_of (block_lines (lines after)))
    (blocks_from n ((passed + 1) + length (block_lines (lines after))) (behind_block (lines after)))
block_next n passed rest after first = ap (blocks_from (suc n) passed) first

pub block_taken : (front new : List BlockParts) (b : BlockParts) (whole : Result InputParts ℕ) (left n passed now count : ℕ) (rest after behind : List ℕ)
    → left ≡ suc n → lines rest ≡ codes "%generation" ∷ lines after
    → block_of (block_lines (lines after)) ≡ Ok b.parts → b.before ≡ passed + 1 → b.own ≡ script_lines (block_lines (lines after))
    → count ≡ length (block_lines (lines after)) → lines behind ≡ behind_block (lines after) → now ≡ (passed + 1) + count → new ≡ front ++ b ∷ []
    → blocks_before front (blocks_from left passed (lines rest)) ≡ whole → blocks_before new (blocks_from n now (lines behind)) ≡ whole
block_taken front new b whole left n passed now count rest after behind more first says before own counted follows is pushed h =
    let place : BlockParts = record { before = passed + 1; own = script_lines (block_lines (lines after)); parts = b.parts } in
    let same : b ≡ place =
    ap (λ (k : ℕ). record { before = k; own = b.own; parts = b.parts }) before
    ∙ ap (λ (ls : List (List ℕ)). record { before = passed + 1; own = ls; parts = b.parts }) own in
    let at : now ≡ (passed + 1) + length (block_lines (lines after)) = is ∙ ap (λ (k : ℕ). (passed + 1) + k) counted in
    let next : blocks_from left passed (lines rest) ≡ blocks_before (b ∷ []) (blocks_from n now (lines behind)) =
    ap (λ (k : ℕ). blocks_from k passed (lines rest)) more
    ∙ block_next n passed rest after first
    ∙ ap (λ (r : Result Parts ℕ). block_before (passed + 1) (script_lines (block_lines (lines after))) r
    (blocks_from n ((passed + 1) + length (block_lines (lines after))) (behind_block (lines after)))) says
    ∙ ap (λ (x : BlockParts). blocks_before (x ∷ []) (blocks_from n ((passed + 1) + length (block_lines (lines after))) (behind_block (lines after))))
    (sym same)
    ∙ ap (λ (k : ℕ). blocks_before (b ∷ []) (blocks_from n k (behind_block (lines after)))) (sym at)
    ∙ ap (λ (ls : List (List ℕ)). blocks_before (b ∷ []) (blocks_from n now ls)) (sym follows) in
    ap (λ (bs : List BlockParts). blocks_before bs (blocks_from n now (lines behind))) pushed
    ∙ sym (blocks_join front b (blocks_from n now (lines behind)))
    ∙ ap (blocks_before front) (sym next)
    ∙ h

-- no further block may come
pub blocks_full : (front : List BlockParts) (whole : Result InputParts ℕ) (left passed : ℕ) (rest after : List ℕ) → left ≡ 0
    → lines rest ≡ codes "%generation" ∷ lines after → blocks_before front (blocks_from left passed (lines rest)) ≡ whole → whole ≡ Err (passed + 1)
blocks_full front whole left passed rest after none first h =
    sym h ∙ ap (λ (j : ℕ). blocks_before front (blocks_from j passed (lines rest))) none
    ∙ ap (λ (ls : List (List ℕ)). blocks_before front (with_steps (steps_behind passed ls))) first

-- the steps follow
last_block : (left passed : ℕ) (ls : List (List ℕ)) → begins_with (codes "%generation") ls ≡ false
    → blocks_from left passed ls ≡ with_steps (steps_behind passed ls)
last_block zero passed ls e = refl
last_block (suc n) passed [] e = refl
last_block (suc n) passed (line ∷ more) e =
    if_off (is_generation line)
    (block_before (passed + 1) (script_lines (block_lines more)) (block_of (block_lines more))
    (blocks_from n ((passed + 1) + length (block_lines more)) (behind_block more))) (with_steps (steps_behind passed (line ∷ more))) e

pub blocks_all : (front : List BlockParts) (whole : Result InputParts ℕ) (steps : List Step) (left passed : ℕ) (rest : List ℕ)
    → begins_with (codes "%generation") (lines rest) ≡ false → steps_behind passed (lines rest) ≡ Ok steps
    → blocks_before front (blocks_from left passed (lines rest)) ≡ whole → whole ≡ Ok (record { blocks = front; steps = steps })
blocks_all front whole steps left passed rest none said h =
    sym h
    ∙ ap (blocks_before front) (last_block left passed (lines rest) none)
    ∙ ap (λ (r : Result (List Step) ℕ). blocks_before front (with_steps r)) said
    ∙ ap (λ (bs : List BlockParts). Ok (record { blocks = bs; steps = steps })) (append-nil front)

pub front_ends : (passed : ℕ) (ls : List (List ℕ)) → begins_front ls ≡ false → input_from passed ls ≡ first_block passed ls
front_ends passed [] e = refl
front_ends passed (line ∷ more) e = if_off (is_front line) (input_from (passed + 1) more) (first_block passed (line ∷ more)) e

-- ---- how many blocks there are

steps_count : (r : Result (List Step) ℕ) (whole : InputParts) → with_steps r ≡ Ok whole → length whole.blocks ≡ 0
steps_count (Ok steps) whole e = (let is : record { blocks = []; steps = steps } ≡ whole = cc in sym (ap (λ (i : InputParts). length i.blocks) is))
steps_count (Err n) whole e = absurd (cc)

-- one block more than behind it
block_count : (before : ℕ) (own : List (List ℕ)) (read : Result Parts ℕ) (more : Result InputParts ℕ) (whole : InputParts)
    → block_before before own read more ≡ Ok whole → (rest : InputParts) × ((more ≡ Ok rest) × (length whole.blocks ≡ length rest.blocks + 1))
block_count before own (Err n) more whole e = absurd (cc)
block_count before own (Ok parts) (Err n) whole e = absurd (cc)
block_count before own (Ok parts) (Ok rest) whole e =
    let b : BlockParts = record { before = before; own = own; parts = parts } in
    let all : InputParts = record { blocks = (b ∷ []) ++ rest.blocks; steps = rest.steps } in
    let is : all ≡ whole = cc in
    (rest, (refl, sym (ap (λ (i : InputParts). length i.blocks) is) ∙ omega arith))

few_more : (n : ℕ) (b : Bool) (before : ℕ) (own : List (List ℕ)) (read : Result Parts ℕ) (more : Result InputParts ℕ) (steps : Result (List Step) ℕ)
    (whole : InputParts) → ((rest : InputParts) → more ≡ Ok rest → length rest.blocks ≤ n)
    → (if b then block_before before own read more else with_steps steps) ≡ Ok whole → length whole.blocks ≤ suc n
few_more n true before own read more steps whole few e = (let c = block_count before own read more whole e in omega (arith, few c.0 c.1.0, c.1.1))
few_more n false before own read more steps whole few e = omega (arith, steps_count steps whole e)

blocks_few : (n passed : ℕ) (ls : List (List ℕ)) (whole : InputParts) → blocks_from n passed ls ≡ Ok whole → length whole.blocks ≤ n
blocks_few zero passed ls whole e = omega (arith, steps_count (steps_behind passed ls) whole e)
blocks_few (suc n) passed [] whole e = absurd (cc)
blocks_few (suc n) passed (line ∷ more) whole e =
    few_more n (is_generation line) (passed + 1) (script_lines (block_lines more)) (block_of (block_lines more))
    (blocks_from n ((passed + 1) + length (block_lines more)) (behind_block more)) (steps_behind passed (line ∷ more)) whole
    (λ rest is. blocks_few n ((passed + 1) + length (block_lines more)) (behind_block more) rest is) e

blocks_some : (n passed : ℕ) (ls : List (List ℕ)) (whole : InputParts) → begins_with (codes "%generation") ls ≡ true → blocks_from (suc n) passed ls ≡ Ok whole
    → 0 < length whole.blocks
blocks_some n passed [] whole first e = absurd (cc)
blocks_some n passed (line ∷ more) whole first e =
    let behind : Result InputParts ℕ = blocks_from n ((passed + 1) + length (block_lines more)) (behind_block more) in
    let c = block_count (passed + 1) (script_lines (block_lines more)) (block_of (block_lines more)) behind whole
    (sym (if_on (is_generation line) (block_before (passed + 1) (script_lines (block_lines more)) (block_of (block_lines more)) behind)
    (with_steps (steps_behind passed (line ∷ more))) first) ∙ e) in
    omega (arith, c.1.1)

first_count : (passed : ℕ) (ls : List (List ℕ)) (whole : InputParts) → first_block passed ls ≡ Ok whole → (0 < length whole.blocks) × (length whole.blocks ≤ 64)
first_count passed ls whole e = by (begins_with (codes "%generation") ls) refl e
  where
    by : (b : Bool) → begins_with (codes "%generation") ls ≡ b → (if b then blocks_from 64 passed ls else Err (passed + 1)) ≡ Ok whole
        → (0 < length whole.blocks) × (length whole.blocks ≤ 64)
    by true first said = (blocks_some 63 passed ls whole first said, blocks_few 64 passed ls whole said)
    by false first said = absurd (cc)

front_count : (b : Bool) (passed : ℕ) (more : List (List ℕ)) (ls : List (List ℕ)) (whole : InputParts)
    → (input_from (passed + 1) more ≡ Ok whole → (0 < length whole.blocks) × (length whole.blocks ≤ 64))
    → (if b then input_from (passed + 1) more else first_block passed ls) ≡ Ok whole → (0 < length whole.blocks) × (length whole.blocks ≤ 64)
front_count true passed more ls whole later e = later e
front_count false passed more ls whole later e = first_count passed ls whole e

from_count : (passed : ℕ) (ls : List (List ℕ)) (whole : InputParts) → input_from passed ls ≡ Ok whole → (0 < length whole.blocks) × (length whole.blocks ≤ 64)
from_count passed [] whole e = absurd (cc)
from_count passed (line ∷ more) whole e = front_count (is_front line) passed more (line ∷ more) whole (from_count (passed + 1) more whole) e

-- there are 1 to 64
pub input_count : (ls : List (List ℕ)) (whole : InputParts) → input_of ls ≡ Ok whole → (0 < length whole.blocks) × (length whole.blocks ≤ 64)
unfolding input_of
input_count ls whole e = from_count 0 ls whole e
