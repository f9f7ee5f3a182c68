pub mod NotesTaken
