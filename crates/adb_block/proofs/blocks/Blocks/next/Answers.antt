-- What the framing of one block says of the grammar and of all that is left.
use Rattle.std.proofs.Common.{◌≡◌, ℕ, ◌+◌, List, drop, Some, refl, sym, ap, subst, rules}
use Rattle.std.proofs.lemmas.List.{drop-drop}
use Rattle.adb_block.specs.Framing.{ended, failed, block, next_block_result_at_offset}
use Rattle.adb_block.specs.Reader.{piece_of, reader_after_block}
use Rattle.adb_block.specs.PositionBetweenBlocks.{PositionBetweenBlocks}
use Rattle.adb_block.specs.declared.block.Block.{Block}
use Rattle.adb_block.proofs.Calls.{IsEnd, PrintsOnlyErrorLine, IsFound, at_end, at_fault, at_block}
use Rattle.adb_block.proofs.blocks.Blocks.next.Goals as goal

pub returns-in-Err : goal.returns-in-Err
returns-in-Err c =
    let s = c.self.inside in
    let left : List ℕ = drop s.at s.bytes.now in
    let here : PositionBetweenBlocks = record { schema = s.schema; last = s.last; at = s.at; left = left } in
    let is : next_block_result_at_offset s.last s.at left ≡ failed c.in-Err.cause = subst (λ (x : List ℕ). next_block_result_at_offset s.last s.at x ≡ failed c.in-Err.cause) c.left_from-left.ensures c.in-Err.ensures.exact in
    let all : PrintsOnlyErrorLine c.args.self.now c.in-Err.cause = subst (λ (x : PositionBetweenBlocks). PrintsOnlyErrorLine x c.in-Err.cause) c.self.view_is (at_fault here c.in-Err.cause is) in
    record {
      blocks = all.blocks;
      exact = search rules;
      found = search rules;
      end = search rules;
      none = search rules;
      err = search rules;
      reading = all.reading;
      rest = all.rest;
    }

pub returns-in-Ok-None : goal.returns-in-Ok-None
returns-in-Ok-None c =
    let s = c.self.inside in
    let left : List ℕ = drop s.at s.bytes.now in
    let here : PositionBetweenBlocks = record { schema = s.schema; last = s.last; at = s.at; left = left } in
    let exact = rw c.in-Ok-None.field-0-is at c.in-Ok-None.ensures.exact in
    let is : next_block_result_at_offset s.last s.at left ≡ ended = subst (λ (x : List ℕ). next_block_result_at_offset s.last s.at x ≡ ended) c.left_from-left.ensures exact in
    let all : IsEnd c.args.self.now = subst IsEnd c.self.view_is (at_end here is) in
    record {
      blocks = all.blocks;
      exact = search rules;
      found = search rules;
      end = (λ none. all.none.empty, λ empty. refl);
      none = all.none;
      err = search rules;
      reading = all.reading;
      rest = all.rest;
    }

pub returns-in-Ok-Some : goal.returns-in-Ok-Some
returns-in-Ok-Some c =
    let s = c.self.inside in
    let f = c.in-Ok-Some.frame in
    let left : List ℕ = drop s.at s.bytes.now in
    let b : Block = record { kind = f.kind; payload = f.payload; at = s.at } in
    let here : PositionBetweenBlocks = record { schema = s.schema; last = s.last; at = s.at; left = left } in
    let there : PositionBetweenBlocks = record { schema = s.schema; last = Some f.kind; at = s.at + f.size; left = drop (s.at + f.size) s.bytes.now } in
    let exact = rw c.in-Ok-Some.field-0-is at c.in-Ok-Some.ensures.exact in
    let is : next_block_result_at_offset s.last s.at left ≡ block (piece_of b) f.size = subst (λ (x : List ℕ). next_block_result_at_offset s.last s.at x ≡ block (piece_of b) f.size) c.left_from-left.ensures exact in
    let located : there ≡ reader_after_block here f.kind f.size = ap (λ (x : List ℕ). record { schema = s.schema; last = Some f.kind; at = s.at + f.size; left = x }) (sym (drop-drop f.size s.at s.bytes.now)) in
    let all : IsFound c.args.self.now b there = subst (λ (x : PositionBetweenBlocks). IsFound x b there) c.self.view_is (at_block here b f.size there refl is located) in
    record {
      blocks = all.blocks;
      exact = all.exact;
      found = all.found;
      end = (λ none. absurd cc, λ empty. absurd (all.filled empty));
      none = search rules;
      err = search rules;
      reading = all.reading;
      rest = all.rest;
    }
