mod ReadyFiles
