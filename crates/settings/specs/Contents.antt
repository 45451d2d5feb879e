-- What a setting holds. Assumes nothing.
use Rattle.std.specs.Prelude.{◌≡◌, ℕ, ◌^◌, ◌<◌, ◌≤◌, List, length, vec_items, count_ones, slice_index}
use Rattle.settings.specs.declared.contents.Contents.{Contents}
use Rattle.settings.specs.declared.setting.Setting.{Setting}

-- the number of blocks, how many the cache holds, the initial cache as a map, and the requests in turn
pub record Content : Type 0 where
  pub blocks : ℕ
  pub size : ℕ
  pub initial : ℕ
  pub requests : List ℕ

abbrev pub content : Setting → Content
content s = record { blocks = s.blocks; size = s.size; initial = s.initial; requests = vec_items s.requests }

-- what a setting is to be filled with
abbrev pub wanted : Contents → Content
wanted new = record { blocks = new.blocks; size = new.size; initial = new.initial; requests = new.requests.now }

-- the limits of a setting: 1 to 64 blocks, 1 to all of them cached, at most 200 requests, an initial cache of
-- exactly as many blocks as the cache holds, all of them known, and requests for known blocks only
pub record Within (c : Content) : Type 0 where
  pub some_block : 1 ≤ c.blocks
  pub few_blocks : c.blocks ≤ 64
  pub some_held : 1 ≤ c.size
  pub few_held : c.size ≤ c.blocks
  pub few_requests : length c.requests ≤ 200
  pub full : count_ones c.initial ≡ c.size
  pub known : c.initial < 2 ^ c.blocks
  pub named : (i : ℕ) → i < length c.requests → slice_index c.requests i < c.blocks
