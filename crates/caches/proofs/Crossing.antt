-- Caches may move to another thread.
use denote.Builtin.{unit}
use denote.Param.{number}
use denote.Param.Send.{IsSend, sendable}
use Rattle.std.proofs.Crossing.{crosses}
use Rattle.std.proofs.MapsCrossing as maps
use Rattle.arrayvec.specs.contracts.array_vec.ArrayVec as ArrayVec
use Rattle.caches.specs.contracts.caches.Caches as Caches
use Rattle.caches.specs.contracts.entry_map.EntryMap as EntryMap
use Rattle.caches.specs.contracts.entry_map.EntryMap.TheInside as Inside
use Rattle.caches.specs.contracts.indexed_map.IndexedMap as IndexedMap
use Rattle.caches.specs.contracts.rank.Rank as Rank

rank_send : IsSend Rank.the_row
rank_send = search sendable depth 40

index_send : IsSend IndexedMap.the_field.row
index_send = search (sendable, crosses, maps.crosses) depth 40 fits 100000

removed_send : IsSend (ArrayVec.the_field Rank.the_row (number 16) unit).row
removed_send = search (sendable, rank_send) depth 60 fits 100000

inside_send : IsSend Inside.the_row
inside_send = search (sendable, crosses, index_send, removed_send) depth 60 fits 100000

entries_send : IsSend EntryMap.the_row
entries_send = search (sendable, inside_send) depth 40 fits 100000

pub caches_send : IsSend Caches.the_field.row
caches_send = search (sendable, crosses, entries_send) depth 40 fits 100000
